-- Each number is looked at only where it is there.
use mathlib.Core.Path.{ap₂}
use mathlib.Core.Bool.{◌||◌}
use mathlib.Core.List.{List}
use Prim.Native.Nat.{ℕ}
use lib.Dec.{leb}
use lib.ListN.{length}
use Rattle.lemmas.specs.BigEndian.{number_at}
use Rattle.lemmas.specs.Tests.{◌isnt◌, ◌over◌}
use Rattle.rules.specs.Program.{clock_start, frame_length, record_head, record_magic}
use Rattle.record.specs.ArrivalLaws.{there}
use Rattle.record.proofs.is_malformed.Goals as goal

pub returns : goal.returns
returns c =
    let s : List ℕ = c.args.input.now in
    let most : ℕ = c.args.most in
    rw (c.number-2.ensures.0, c.number.ensures.0)
    (ap₂ ◌||◌
    (there (leb clock_start (length s)) (λ (x : ℕ). x isnt record_magic) (number_at s 0 clock_start))
    (there (leb record_head (length s)) (λ (x : ℕ). x over most) (frame_length s)))
