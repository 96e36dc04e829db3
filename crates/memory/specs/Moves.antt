-- One turn of the loop that moves the entries that live to a memory's front.
-- all: the entries as they were; es, ts: the rows as they are, with i of `all` looked at and k of them kept.
use Rattle.std.specs.Prelude.{◌≡◌, ℕ, ◌+◌, ◌-◌, ◌*◌, ◌<◌, ◌≤◌, List, ◌++◌, length, get_or, take, drop, set, slice_index_or, slice_set}
use Rattle.std.proofs.Common.{sym, ap, ◌∙◌, append_assoc, arith, length-append, length-take, drop_at, drop-drop}
use Rattle.lemmas.specs.Lists.{keep, splice}
use Rattle.lemmas.specs.ListLaws.{length-keep}
use Rattle.lemmas.specs.Fronts.{with_front, front_length, kept_at, kept_low, kept_one, kept_none}
use Rattle.rules.specs.declared.Entry.{Entry}
use Rattle.rules.specs.Drive.{time_window, lives}
use Rattle.memory.specs.Memory.{entry_size, no_entry, numbers_of, entries_in, lives_yes, lives_no}
use Rattle.memory.specs.Entries.{entries-set}

-- x: the entry that the loop meets
module _ (mark : ℕ) (all : List Entry) (es ts : List ℕ) (i k : ℕ) (more : i < length all)
    (e : entries_in es ts ≡ with_front (keep (lives mark) (take i all)) all)
    (c : k ≡ length (keep (lives mark) (take i all))) (x : Entry) (met : x ≡ slice_index_or (entries_in es ts) i no_entry) where
  long : length (entries_in es ts) ≡ length all
  long = ap length e ∙ front_length (keep (lives mark) (take i all)) all
      (omega (arith, length-keep (lives mark) (take i all), length-take i all))

  -- it is the i-th of all
  here : get_or all i no_entry ≡ x
  here = sym (met ∙ kept_at (lives mark) all (entries_in es ts) i k no_entry more e c)

  pub entry_kept : mark - time_window ≤ x.time
      → (entries_in (splice es (entry_size * k) (numbers_of x)) (slice_set ts k x.time) ≡ with_front (keep (lives mark) (take (i + 1) all)) all)
      × (k + 1 ≡ length (keep (lives mark) (take (i + 1) all)))
  entry_kept p =
      let turn = kept_one (lives mark) all (entries_in es ts) i k no_entry more e c
      (ap (lives mark) here ∙ lives_yes mark x p) in (
        entries-set es ts k x (omega (arith, long, kept_low (lives mark) all (entries_in es ts) i k no_entry more e c))
            ∙ ap (set (entries_in es ts) k) (sym here) ∙ turn.0,
        turn.1,
      )

  pub entry_dropped : x.time < mark - time_window
      → (entries_in es ts ≡ with_front (keep (lives mark) (take (i + 1) all)) all)
      × (k ≡ length (keep (lives mark) (take (i + 1) all)))
  entry_dropped p =
      kept_none (lives mark) all (entries_in es ts) i k no_entry more e c (ap (lives mark) here ∙ lives_no mark x p)

-- what stands behind an entry that is put at place k stays
pub behind_put : (old es : List ℕ) (k : ℕ) (x : Entry) → entry_size * k + entry_size ≤ length es
    → drop (entry_size * k) es ≡ drop (entry_size * k) old
    → drop (entry_size * (k + 1)) (splice es (entry_size * k) (numbers_of x)) ≡ drop (entry_size * (k + 1)) old
unfolding splice
behind_put old es k x h e =
    let at : ℕ = entry_size * k in
    let next : entry_size * (k + 1) ≡ at + entry_size = omega arith in
    let front : length (take at es ++ numbers_of x) ≡ at + entry_size =
    length-append (take at es) (numbers_of x) ∙ omega (arith, length-take at es) in
    rw next (ap (drop (at + entry_size)) (sym (append_assoc (take at es) (numbers_of x) (drop (at + entry_size) es)))
    ∙ drop_at (take at es ++ numbers_of x) (drop (at + entry_size) es) (at + entry_size) front
    ∙ sym (drop-drop entry_size at es) ∙ ap (drop entry_size) e ∙ drop-drop entry_size at old)
