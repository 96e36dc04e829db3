-- The three groups of rows, one after the other, are the rules' table (rows_by_facts).
use Rattle.std.specs.Prelude.{◌≡◌, ℕ}
use Rattle.std.proofs.Common.{◌∙◌, ap}
use Rattle.lemmas.specs.Options.{option_of}
use Rattle.rules.specs.declared.Object.{Object}
use Rattle.rules.specs.Drive as rules
use Rattle.rules.specs.Refusals.{answer_row}
use Rattle.rules.proofs.Refused.{row_handed_on}
use Rattle.state.specs.Table.{partition_in}
use Rattle.judge.specs.declared.ScopeFacts.{ScopeFacts}
use Rattle.judge.specs.declared.FrameFacts.{FrameFacts}
use Rattle.judge.specs.Judge.{present_version_in, object_row, room_row, rows_by_facts, time_joins, object_joins}
use Rattle.judge.proofs.Judged.{stop_at, go_on}
use Rattle.judge.proofs.judge.Goals as goal

module _ (p : rules.Partition Object) (facts : ScopeFacts) (k : FrameFacts) (room : ℕ) where
  -- the last group of rows, and the second with it
  abbrev last : ℕ
  last = room_row p facts.held k.badload k.request (option_of k.place) k.length room

  abbrev present : ℕ
  present = present_version_in p.version k.credential.object (option_of k.found)

  abbrev later : ℕ
  later = object_row k.credential k.request (option_of k.found) present (answer_row k.listed) (option_of k.target) last

pub returns-in_err-time_row : goal.returns-in_err-time_row
returns-in_err-time_row c = λ s payload group w.
    let a = c.args in
    let p = partition_in a.table.now in
    row_handed_on _ _ c.from_residual.ensures.1
    ∙ stop_at _ _ _ _ (time_joins a.facts a.k.need a.k.credential a.k.request (later p a.facts a.k a.space)) c.in_err-time_row.ensures
    ∙ rows_by_facts s a.facts p a.k payload group a.space w

pub returns-in_err-object_row : goal.returns-in_err-object_row
unfolding partition_in
returns-in_err-object_row c = λ s payload group w.
    let a = c.args in
    let p = partition_in a.table.now in
    let now : c.present_version-present.result ≡ present p a.facts a.k a.space =
    c.present_version-present.ensures
    ∙ ap (λ (v : ℕ). present_version_in v a.k.credential.object (option_of a.k.found)) c.number_at-version.ensures in
    row_handed_on _ _ c.from_residual-in_err-object_row.ensures.1
    ∙ stop_at _ _ _ _ (object_joins a.k.credential a.k.request (option_of a.k.found) (present p a.facts a.k a.space)
    (answer_row a.k.listed) (option_of a.k.target) (last p a.facts a.k a.space)) (rw now at c.in_err-object_row.ensures)
    ∙ go_on _ _ _ (time_joins a.facts a.k.need a.k.credential a.k.request (later p a.facts a.k a.space)) c.in_ok-time_row.ensures
    ∙ rows_by_facts s a.facts p a.k payload group a.space w

pub returns : goal.returns
unfolding partition_in
returns c = λ s payload group w.
    let a = c.args in
    let p = partition_in a.table.now in
    let now : c.present_version-present.result ≡ present p a.facts a.k a.space =
    c.present_version-present.ensures
    ∙ ap (λ (v : ℕ). present_version_in v a.k.credential.object (option_of a.k.found)) c.number_at-version.ensures in
    c.room_row.ensures
    ∙ go_on _ _ _ (object_joins a.k.credential a.k.request (option_of a.k.found) (present p a.facts a.k a.space)
    (answer_row a.k.listed) (option_of a.k.target) (last p a.facts a.k a.space)) (rw now at c.in_ok-object_row.ensures)
    ∙ go_on _ _ _ (time_joins a.facts a.k.need a.k.credential a.k.request (later p a.facts a.k a.space)) c.in_ok-time_row.ensures
    ∙ rows_by_facts s a.facts p a.k payload group a.space w
