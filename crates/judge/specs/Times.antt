-- Row 11's test in differences.
use Rattle.std.specs.Prelude.{◌≡◌, refl, Bool, true, false, ℕ, ◌+◌, ◌-◌, ◌<◌, ◌≤◌, ltb}
use Rattle.std.proofs.Common.{arith, lt-ltb, le-ltb, ltb-true, ltb-false}
use Rattle.rules.specs.Rows.{untimely}

-- the mark is later than the time, or not
pub untimely-early : (t mark : ℕ) → t < mark → ltb 5000 (mark - t) ≡ untimely mark t
untimely-early t mark h = go (ltb 5000 (mark - t)) refl
  where
    go : (b : Bool) → ltb 5000 (mark - t) ≡ b → b ≡ untimely mark t
    go true e = let k = ltb-true 5000 (mark - t) e in rw (lt-ltb (t + 5000) mark (omega arith))
    go false e =
        let k = ltb-false 5000 (mark - t) e in
        rw (le-ltb (t + 5000) mark (omega arith), le-ltb (mark + 5000) t (omega arith))

pub untimely_late : (t mark : ℕ) → mark ≤ t → ltb 5000 (t - mark) ≡ untimely mark t
untimely_late t mark h = go (ltb 5000 (t - mark)) refl
  where
    go : (b : Bool) → ltb 5000 (t - mark) ≡ b → b ≡ untimely mark t
    go true e =
        let k = ltb-true 5000 (t - mark) e in
        rw (le-ltb (t + 5000) mark (omega arith), lt-ltb (mark + 5000) t (omega arith))
    go false e =
        let k = ltb-false 5000 (t - mark) e in
        rw (le-ltb (t + 5000) mark (omega arith), le-ltb (mark + 5000) t (omega arith))
