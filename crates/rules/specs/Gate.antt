-- Document 01: one call of the gate, its two answers.
use Rattle.std.specs.Prelude.{cond, List, ℕ}
use Rattle.lemmas.specs.Tests.{◌is◌}
use Rattle.lemmas.specs.Lists.{splice}
use Rattle.lemmas.specs.RowTable.{first_row}
use Rattle.rules.specs.declared.Credential.{Credential}
use Rattle.rules.specs.declared.Object.{Object}
use Rattle.rules.specs.Frame.{Fields, fields, operation_of}
use Rattle.rules.specs.Drive.{Drive, refresh}
use Rattle.rules.specs.Scope.{Scope, with_memory, drive_scope, drive_with_scope}
use Rattle.rules.specs.Operations.{perform, remember, reply, reply_length}
use Rattle.rules.specs.Rows.{rows}

-- what a call brings: a frame, a clock reading and a space for the reply
pub record Call : Type 0 where
  pub frame : List ℕ
  pub clock : ℕ
  pub space : List ℕ

-- what it gives, and what it leaves of the drive (or of the frame's scope in it), of medium and reply space
pub record Answer (Left : Type 0) : Type 0 where
  pub row : ℕ
  pub length : ℕ
  pub drive : Left
  pub medium : List ℕ
  pub space : List ℕ

-- "The lowest row that applies is returned, with length 0. Everything lent is untouched"
abbrev pub refused : {Left : Type 0} → ℕ → Left → List ℕ → List ℕ → Answer Left
refused row d m space = record { row = row; length = 0; drive = d; medium = m; space = space }

-- "A grant returns 0 and the reply's length." It enters its nonce. s has the new mark and no outlived entry
unfoldable pub granted : Scope Object → List ℕ → Fields → List ℕ → Answer (Scope Object)
granted s m x space =
    let did = perform (operation_of x) s x m in
    record {
      row = 0;
      length = reply_length x.req;
      drive = with_memory (remember x s.memory) did.scope;
      medium = did.medium;
      space = splice space 0 (reply s.keys x did.result);
    }

-- the same of the whole drive d: all else of it stays
abbrev pub whole_answer : Credential → Drive → Answer (Scope Object) → Answer Drive
whole_answer c d a = record {
  row = a.row;
  length = a.length;
  drive = drive_with_scope c a.drive d;
  medium = a.medium;
  space = a.space;
}

-- "of the drive only mark and outlived entries change"; by row 1 "it comes back unchanged, mark included"
abbrev pub after_refusal : ℕ → ℕ → Drive → Drive
after_refusal row clock d = cond (row is 1) d (refresh clock d)

unfoldable pub gate : Drive → List ℕ → Call → Answer Drive
gate d m c =
    let x = fields c.frame in
    let now = refresh c.clock d in
    let row = first_row (rows d m c.frame c.clock c.space) in
    cond (row is 0)
    (whole_answer x.cred now (granted (drive_scope now x.cred) m x c.space))
    (refused row (after_refusal row c.clock d) m c.space)
