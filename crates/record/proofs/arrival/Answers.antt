-- The four answers, each by what was tested before it.
use mathlib.Core.Path.{◌≡◌, sym, ◌∙◌}
use mathlib.Core.Bool.{true, false}
use mathlib.Core.List.{List}
use Prim.Native.Nat.{ℕ, ◌≤◌}
use native.Mathlib.Omega.{arith}
use lib.ListN.{length}
use borrow.Author.Tests.{le-leb}
use Rattle.lemmas.specs.BigEndian.{number_at}
use Rattle.octets.specs.Numbers.{number_in}
use Rattle.rules.specs.Program.{clock_start, frame_length, length_start, record_head}
use Rattle.record.specs.ArrivalLaws.{malformed-broken, head_short, frame_short, all_there, facts_when_broken, facts_when_whole}
use Rattle.record.proofs.arrival.Goals as goal

-- a number of a head that is there
size : (s : List ℕ) (n : ℕ) → n ≡ number_in s length_start 4 → record_head ≤ length s → n ≡ frame_length s
size s n e h = e ∙ (rw (le-leb record_head (length s) h))

pub returns-then-is_malformed : goal.returns-then-is_malformed
returns-then-is_malformed c =
    let s : List ℕ = c.args.input.now in
    let most : ℕ = c.args.most in
    let w = sym c.is_malformed.ensures ∙ c.if-is_malformed.true in
    sym (facts_when_broken most s true (malformed-broken most s w) w)

pub returns-then-input-lt-HEAD_SIZE : goal.returns-then-input-lt-HEAD_SIZE
returns-then-input-lt-HEAD_SIZE c =
    let s : List ℕ = c.args.input.now in
    let most : ℕ = c.args.most in
    let w = sym c.is_malformed.ensures ∙ c.if-is_malformed.false in
    sym (facts_when_broken most s false (head_short most s c.if-input-lt-HEAD_SIZE.true) w)

pub returns-then-input-size : goal.returns-then-input-size
returns-then-input-size c =
    let s : List ℕ = c.args.input.now in
    let most : ℕ = c.args.most in
    let w = sym c.is_malformed.ensures ∙ c.if-is_malformed.false in
    sym (facts_when_broken most s false (frame_short most s (omega (arith, size s c.number-size.result c.number-size.ensures.0 c.if-input-lt-HEAD_SIZE.false))) w)

pub returns : goal.returns
returns c =
    let s : List ℕ = c.args.input.now in
    let most : ℕ = c.args.most in
    let w = sym c.is_malformed.ensures ∙ c.if-is_malformed.false in
    let head : record_head ≤ length s = c.if-input-lt-HEAD_SIZE.false in
    let clock : c.number-clock.result ≡ number_at s clock_start 8 =
    c.number-clock.ensures.0 ∙ (rw (le-leb length_start (length s) (omega (arith, head)))) in
    rw (clock, size s c.number-size.result c.number-size.ensures.0 c.if-input-lt-HEAD_SIZE.false)
    (sym (facts_when_whole most s (all_there most s w head (omega (arith, size s c.number-size.result c.number-size.ensures.0 c.if-input-lt-HEAD_SIZE.false, head))) w))
