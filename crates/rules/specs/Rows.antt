-- Document 01, "Why the drive says no", rows 1 to 23, and rows 31 to 34 of document 02: each row's test under the documents'
-- words, then one table. Change 5 of document 02: "Rows 4 to 7 and 13 read accordingly".
-- f: the frame. c, r: the numbers of its credential and request. x: its fields. s: its scope. m: the medium.
-- group: the bytes of the object that the credential names.
use Rattle.std.specs.Prelude.{Bool, not, ◌&&◌, ◌||◌, cond, List, [], ◌∷◌, ◌++◌, ℕ, ◌+◌, length, leb}
use Rattle.std.specs.Int.Bits.{bit_and}
use Rattle.lemmas.specs.Tests.{◌over◌, ◌under◌, ◌is◌, ◌isnt◌, any}
use Rattle.lemmas.specs.Lists.{same, some?, find, missing}
use Rattle.lemmas.specs.RowTable.{Row, line}
use Rattle.rules.specs.declared.Credential.{Credential}
use Rattle.rules.specs.declared.Request.{Request}
use Rattle.rules.specs.declared.Object.{Object}
use Rattle.rules.specs.declared.Need.{Need}
use Rattle.rules.specs.Frame.{
  credential_magic,
  entry,
  Fields,
  fields,
  frame_length,
  is_group_credential,
  is_group_request,
  request_magic,
  request_start,
  target_of,
}
use Rattle.rules.specs.Needs.{need_under, needs_size, needs_at, good_needs}
use Rattle.rules.specs.Drive.{Drive, last_version, most_objects, most_entries, sound, time_window, same_entry, refresh}
use Rattle.rules.specs.Scope.{Scope, drive_scope}
use Rattle.rules.specs.Operations.{
  digest_of,
  extent_bytes,
  key_in,
  named_object,
  object_of,
  placement,
  present_version,
  reply_length,
}
use Rattle.rules.specs.Group.{is_group_list, lists}

-- 1. "The drive record is not sound .., or the medium lent is not M bytes long."
unfoldable pub row1 : Drive → List ℕ → Bool
row1 d m = not (sound d) || length m isnt d.size

-- 2. "The frame is under 96 bytes." Change 6 of document 02: "row 2 keeps 96 for every form"
abbrev pub least_frame : ℕ
least_frame = 96

abbrev pub row2 : List ℕ → Bool
row2 f = length f under least_frame

-- 3. "Bytes 0–1 or 36–37 are not the marks." A request has one of two
abbrev pub row3 : Credential → Request → Bool
row3 c r = c.magic isnt credential_magic || not (r.magic is request_magic || is_group_request r)

-- 4. "A field is outside the values above, including rights bits 7–15 set and slot 3 or 4 with partition not 0."
-- Operations are 1 to 8; "Rights bit 7, now allowed by row 4"
abbrev pub credential_faults : Credential → List Bool
credential_faults c =
    (c.partition over 3)
    ∷ (c.slot over 4)
    ∷ (c.slot over 2 && c.partition isnt 0)
    ∷ (c.rights over 255)
    ∷ (c.least over 2)
    ∷ (c.zero isnt 0)
    ∷ []

abbrev pub outside_credential : Credential → Bool
outside_credential c = any (credential_faults c)

abbrev pub most_data : ℕ
most_data = 1_048_576

abbrev pub request_faults : Request → List Bool
request_faults r = (r.operation under 1) ∷ (r.operation over 8) ∷ (r.level over 2) ∷ (r.n over most_data) ∷ []

abbrev pub outside_request : Request → Bool
outside_request r = any (request_faults r)

abbrev pub row4 : Credential → Request → Bool
row4 c r = outside_credential c || outside_request r

-- 5. "n is not 0 for operations 1 and 3–6, B for 2, 16 for 7,
-- or the frame is not as long as its parts together, 96 + n bytes." And 21 for 8; a group's request has four bytes more
abbrev pub data_length : Request → ℕ
data_length r = cond (r.operation is 2) r.B (cond (r.operation is 7) 16 (cond (r.operation is 8) needs_size 0))

abbrev pub wrong_data : Request → Bool
wrong_data r = r.n isnt data_length r

abbrev pub row5 : Request → List ℕ → Bool
row5 r f = wrong_data r || length f isnt frame_length (request_start f) r

-- 6. "Operation misfits: 1–6 with slot over 1; 7 with slot under 2 or version not 0;
-- 1, 2, 6 on object 0; 5, 7 elsewhere;
-- 3, 4, 6 with A or B not 0; 5 with A or B 0;
-- 7 with B not 0, or A over 1, 3, 0 for slots 2, 3, 4."
-- And operation 8 unless "slot 2 ..; object, version, A and B 0".
-- Of a group credential: "operations over 3, object 0, and such a credential with a 4C 52 request or the reverse"
abbrev pub misfits : Credential → Request → List Bool
misfits c r =
    (r.operation under 7 && c.slot over 1)
    ∷ (r.operation is 7 && (c.slot under 2 || c.version isnt 0))
    ∷ ((r.operation is 1 || r.operation is 2 || r.operation is 6) && c.object is 0)
    ∷ ((r.operation is 5 || r.operation is 7) && c.object isnt 0)
    ∷ ((r.operation is 3 || r.operation is 4 || r.operation is 6) && (r.A isnt 0 || r.B isnt 0))
    ∷ (r.operation is 5 && (r.A is 0 || r.B is 0))
    ∷ (r.operation is 7 && r.B isnt 0)
    ∷ (r.operation is 7 && c.slot is 2 && r.A over 1)
    ∷ (r.operation is 7 && c.slot is 3 && r.A over 3)
    ∷ (r.operation is 7 && c.slot is 4 && r.A over 0)
    ∷ (r.operation is 8 && (c.slot isnt 2 || c.object isnt 0 || c.version isnt 0 || r.A isnt 0 || r.B isnt 0))
    ∷ (is_group_credential c && r.operation over 3)
    ∷ (is_group_credential c && c.object is 0)
    ∷ (is_group_credential c && not (is_group_request r))
    ∷ (not (is_group_credential c) && is_group_request r)
    ∷ []

abbrev pub row6 : Credential → Request → Bool
row6 c r = any (misfits c r)

-- what the frame's operation needs, by its partition's table where that holds
unfoldable pub need_of : Scope Object → Credential → Request → Need
need_of s c r = need_under s.partition.needs c.slot r.operation

-- 7. "The level is under the credential's least", or under the one that the operation needs
abbrev pub low_level : Need → Credential → Request → Bool
low_level n c r = r.level under c.least || r.level under n.least

unfoldable pub row7 : Scope Object → Credential → Request → Bool
row7 s c r = low_level (need_of s c r) c r

-- 8. "The named key was never set."
unfoldable pub row8 : Scope Object → Credential → Bool
row8 s c = missing (key_in s.keys c.partition c.slot)

-- 9. "The digest differs."
unfoldable pub row9 : Scope Object → Fields → Bool
row9 s x = not (same x.digest (digest_of s.keys x))

-- 10. "The mark is over the expiry."
abbrev pub expired : ℕ → ℕ → Bool
expired mark expiry = mark over expiry

unfoldable pub row10 : Scope Object → Credential → Bool
row10 s c = expired s.high_water c.expiry

-- 11. "T + 5,000 is under the mark, or T is over the mark + 5,000."
abbrev pub untimely : ℕ → ℕ → Bool
untimely mark T = T + time_window under mark || T over mark + time_window

unfoldable pub row11 : Scope Object → Request → Bool
row11 s r = untimely s.high_water r.time

-- 12. "Its memory holds the nonce." Change 2 of document 02: "Each memory entry, and so row 12's nonce, has the
-- credential's object too."
unfoldable pub row12 : Scope Object → Credential → Request → Bool
row12 s c r = some? (same_entry (entry c r)) s.memory

-- 13. "The right is missing", "every right in the mask being needed":
-- the bits of the mask that the rights have are not all of it
abbrev pub lacks_right : Need → Credential → Bool
lacks_right n c = bit_and n.mask c.rights isnt n.mask

unfoldable pub row13 : Scope Object → Credential → Request → Bool
row13 s c r = lacks_right (need_of s c r) c

-- 14. "The object, not 0, does not exist in the partition."
unfoldable pub row14 : Scope Object → Credential → Bool
row14 s c = c.object isnt 0 && missing (named_object s c.object)

-- 15. "Operations 1–6: the version is not the present one." Change 6 of document 02: "Version is the group object's"
unfoldable pub row15 : Scope Object → Credential → Request → Bool
row15 s c r = r.operation under 7 && c.version isnt present_version s c.object

-- 32. "after row 15, when the group's bytes are no such list"
unfoldable pub row32 : List ℕ → Request → Bool
row32 group r = is_group_request r && not (is_group_list group)

-- 33. "next, when the member is not in it"
unfoldable pub row33 : List ℕ → Request → Bool
row33 group r = is_group_request r && not (lists group r.member)

-- 34. "next, when the member does not exist"
unfoldable pub row34 : Scope Object → Request → Bool
row34 s r = is_group_request r && missing (named_object s r.member)

-- operations 1 and 2; 4 and 5
abbrev pub is_transfer : Request → Bool
is_transfer r = r.operation is 1 || r.operation is 2

abbrev pub gives_version : Request → Bool
gives_version r = r.operation is 4 || r.operation is 5

-- 16. "Operations 1, 2: not (first ≤ A and A + B ≤ end)."
abbrev pub out_of_range : ℕ → ℕ → ℕ → ℕ → Bool
out_of_range first end A B = not (leb first A && leb (A + B) end)

unfoldable pub row16 : Credential → Request → Bool
row16 c r = is_transfer r && out_of_range c.first c.end r.A r.B

-- 17. "Operations 1, 2: A + B is over the size." Change 6 of document 02: "range, size .. are the member's"
unfoldable pub row17 : Scope Object → Credential → Request → Bool
row17 s c r = is_transfer r && r.A + r.B over (object_of s (target_of c r)).size

-- 18. "Create: the number is taken."
unfoldable pub row18 : Scope Object → Request → Bool
row18 s r = r.operation is 5 && not (missing (find Object.number r.A s.partition.objects))

-- 19. "Create: 16 objects exist."
unfoldable pub row19 : Scope Object → Request → Bool
row19 s r = r.operation is 5 && length s.partition.objects is most_objects

-- 20. "Create: no gap has B bytes." Change 3 of document 02: "Row 20 is met exactly when no gap fits."
unfoldable pub row20 : Scope Object → Request → Bool
row20 s r = r.operation is 5 && missing (placement s r.B)

-- 21. "Operations 4, 5: the partition has given version 4,294,967,295."
unfoldable pub row21 : Scope Object → Request → Bool
row21 s r = gives_version r && s.partition.last is last_version

-- 31. "Turned away: 31, after row 21, when the table is not good": the one that operation 8 would load
unfoldable pub row31 : Request → List ℕ → Bool
row31 r payload = r.operation is 8 && not (good_needs (needs_at payload))

-- 22. "The memory holds 64 entries; here and in row 12 outlived entries have gone first."
unfoldable pub row22 : Scope Object → Bool
row22 s = length s.memory is most_entries

-- 23. "The reply space is too short."
abbrev pub row23 : Request → ℕ → Bool
row23 r room = room under reply_length r

-- ---- the table
-- rows 2 to 6: the frame's own bytes
unfoldable pub frame_rows : List ℕ → Fields → List Row
frame_rows f x =
    line 2 (row2 f)
    ∷ line 3 (row3 x.cred x.req)
    ∷ line 4 (row4 x.cred x.req)
    ∷ line 5 (row5 x.req f)
    ∷ line 6 (row6 x.cred x.req)
    ∷ []

-- rows 10 to 23, with 32 to 34 after 15 and 31 after 21: the frame's scope, which has the new mark and no outlived entry, the
-- numbers of credential and request, the data, the bytes of the credential's object, and the reply space's length
unfoldable pub scope_rows : Scope Object → Credential → Request → List ℕ → List ℕ → ℕ → List Row
scope_rows s c r payload group room =
    line 10 (row10 s c)
    ∷ line 11 (row11 s r)
    ∷ line 12 (row12 s c r)
    ∷ line 13 (row13 s c r)
    ∷ line 14 (row14 s c)
    ∷ line 15 (row15 s c r)
    ∷ line 32 (row32 group r)
    ∷ line 33 (row33 group r)
    ∷ line 34 (row34 s r)
    ∷ line 16 (row16 c r)
    ∷ line 17 (row17 s c r)
    ∷ line 18 (row18 s r)
    ∷ line 19 (row19 s r)
    ∷ line 20 (row20 s r)
    ∷ line 21 (row21 s r)
    ∷ line 31 (row31 r payload)
    ∷ line 22 (row22 s)
    ∷ line 23 (row23 r room)
    ∷ []

-- the bytes of the credential's object on the medium
abbrev pub group_bytes : Scope Object → Credential → List ℕ → List ℕ
group_bytes s c m = extent_bytes s c c.object m

-- and before them row 7, which takes the table, and rows 8 and 9, which take the key
unfoldable pub drive_rows : Scope Object → List ℕ → Fields → List ℕ → List Row
drive_rows s m x space =
    line 7 (row7 s x.cred x.req)
    ∷ line 8 (row8 s x.cred)
    ∷ line 9 (row9 s x)
    ∷ scope_rows s x.cred x.req x.payload (group_bytes s x.cred m) (length space)

-- all, of a frame put to the drive d at a clock reading
unfoldable pub rows : Drive → List ℕ → List ℕ → ℕ → List ℕ → List Row
rows d m f clock space =
    line 1 (row1 d m)
    ∷ (frame_rows f (fields f) ++ drive_rows (drive_scope (refresh clock d) (fields f).cred) m (fields f) space)

-- their numbers, in this order; a later row of document 02 has a line in the table and a number here
abbrev pub gate_rows : List ℕ
gate_rows =
    1 ∷ 2 ∷ 3 ∷ 4 ∷ 5 ∷ 6 ∷ 7 ∷ 8 ∷ 9 ∷ 10 ∷ 11 ∷ 12 ∷ 13 ∷ 14 ∷ 15 ∷ 32 ∷ 33 ∷ 34 ∷ 16 ∷ 17 ∷ 18 ∷ 19 ∷ 20 ∷ 21 ∷ 31
    ∷ 22 ∷ 23 ∷ []

-- the rows that the ledger judges: rights, expiry, range, key and version (8 to 10 and 13 to 17); and row 7,
-- for "a grant keeps to the table that earlier grants loaded", to its levels as to its masks; and by change 6 of document 02
-- "rows 32 to 34 as well", of the ledger's own bytes of the group
unfoldable pub bounds : Scope Object → List ℕ → Fields → List Row
bounds s group x =
    line 7 (row7 s x.cred x.req)
    ∷ line 8 (row8 s x.cred)
    ∷ line 9 (row9 s x)
    ∷ line 10 (row10 s x.cred)
    ∷ line 13 (row13 s x.cred x.req)
    ∷ line 14 (row14 s x.cred)
    ∷ line 15 (row15 s x.cred x.req)
    ∷ line 32 (row32 group x.req)
    ∷ line 33 (row33 group x.req)
    ∷ line 34 (row34 s x.req)
    ∷ line 16 (row16 x.cred x.req)
    ∷ line 17 (row17 s x.cred x.req)
    ∷ []
