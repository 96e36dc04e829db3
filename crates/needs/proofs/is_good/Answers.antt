-- The loop: `good` tells of the first i needs (every_take).
use mathlib.Core.Path.{◌≡◌, refl, sym, ◌∙◌}
use mathlib.Core.Bool.{Bool, ◌&&◌}
use mathlib.Core.List.{List}
use Prim.Native.Nat.{ℕ, ◌+◌, ◌<◌}
use native.Mathlib.Omega.{arith}
use lib.Dec.{leb}
use lib.ListN.{take}
use lib.Seq.{take_all}
use Rattle.lemmas.specs.Lists.{every}
use Rattle.lemmas.specs.Loops.{every_take}
use Rattle.rules.specs.declared.Need.{Need}
use Rattle.rules.specs.Needs.{default_need, good_need, good_needs, need_at, needs_at}
use Rattle.needs.specs.TableBytes.{spelled_at, spelled-length}
use Rattle.needs.proofs.is_good.Goals as goal

-- one need more
more : (b : List ℕ) (i : ℕ) (r g : Bool) (n : Need) → i < 7 → r ≡ every good_need (take i (needs_at b)) → g ≡ good_need n
    → n ≡ need_at b (i + 1) → (r && g) ≡ every good_need (take (i + 1) (needs_at b))
more b i r g n h e f s =
    rw (e, f, s ∙ sym (spelled_at b i (default_need 7) h))
    (sym (every_take good_need (needs_at b) i (default_need 7) (omega (arith, spelled-length b))))

-- all seven, and the last one's level
all : (b : List ℕ) (i : ℕ) (r : Bool) (n : Need) → i ≡ 7 → r ≡ every good_need (take i (needs_at b)) → n ≡ need_at b 7
    → (r && leb 1 n.least) ≡ good_needs (needs_at b)
unfolding every good_needs needs_at
all b i r n h e s =
    rw (e, s ∙ sym (spelled_at b 6 (default_need 7) (omega arith)), take_all i (needs_at b) (omega (arith, spelled-length b)))
    refl

pub loop-i-init : goal.loop-i-init
unfolding every
loop-i-init c = refl

pub loop-i-preserved : goal.loop-i-preserved
loop-i-preserved c =
    let l = c.loop-i in
    more c.args.bytes.now l.i l.good _ _ (omega arith) l.invariant c.is_good_need-good.ensures c.need_at.ensures

pub returns : goal.returns
returns c =
    let l = c.loop-i in
    all c.args.bytes.now l.i l.good _ (omega arith) l.invariant c.need_at-2.ensures
