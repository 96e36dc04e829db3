-- Document 02, change 5: laws of the bytes that operation 8 brings, and of the table that they spell.
-- b: the bytes. k: an operation's number, i: its place, one less.
use Rattle.std.specs.Prelude.{◌≡◌, refl, Bool, true, false, not, cond, List, ℕ, zero, suc, ◌+◌, ◌-◌, ◌*◌, ◌/◌, ◌≤◌, ◌<◌, leb, length, get_or}
use Rattle.std.proofs.Common.{sym, arith, leb-false}
use Rattle.std.proofs.Math.ListN.{get_or-eq_default}
use Rattle.lemmas.specs.BigEndian.{number_at}
use Rattle.octets.specs.Numbers.{number_in}
use Rattle.rules.specs.declared.Need.{Need}
use Rattle.rules.specs.Needs.{need_at, needs_at}

-- one byte as a number, there or past the end
pub one_byte : (b : List ℕ) (at : ℕ) → number_in b at 1 ≡ get_or b at 0
unfolding number_at
one_byte b at = go (leb (at + 1) (length b)) refl
  where
    go : (t : Bool) → leb (at + 1) (length b) ≡ t → cond (not t) 0 (number_at b at 1) ≡ get_or b at 0
    go true e = let z : at + 0 ≡ at = omega arith in rw z (omega arith)
    go false e = sym (get_or-eq_default b 0 {n = at} (omega (arith, leb-false (at + 1) (length b) e)))

-- two bytes are a mask, one is a least level
pub need_of-bytes : (b : List ℕ) (k i mask high low least : ℕ) → i ≡ k - 1 → high ≡ get_or b (3 * i) 0
    → low ≡ get_or b (3 * i + 1) 0 → least ≡ get_or b (3 * i + 2) 0 → mask ≡ 256 * high + low
    → ◌≡◌ {A = Need} (record { mask = mask; least = least }) (need_at b k)
unfolding number_at
need_of-bytes b k i mask high low least e h l s m = λ j. record { mask = two j; least = one j }
  where
    two : mask ≡ number_at b (3 * (k - 1)) 2
    two = let z : 3 * i + 0 ≡ 3 * i = omega arith in rw (← e, z, m, h, l) (omega arith)

    one : least ≡ number_at b (3 * (k - 1) + 2) 1
    one = let z : 3 * i + 2 + 0 ≡ 3 * i + 2 = omega arith in rw (← e, z, s) (omega arith)

-- past the end all of them are 0
pub need_past_end : (b : List ℕ) (k i : ℕ) → i ≡ k - 1 → length b / 3 < i
    → ◌≡◌ {A = Need} (record { mask = 0; least = 0 }) (need_at b k)
need_past_end b k i e h =
    need_of-bytes b k i 0 0 0 0 e (past (3 * i) (omega arith)) (past (3 * i + 1) (omega arith))
    (past (3 * i + 2) (omega arith)) refl
  where
    past : (at : ℕ) → length b ≤ at → 0 ≡ get_or b at 0
    past at l = sym (get_or-eq_default b 0 {n = at} l)

-- the table has seven needs, in the operations' order
pub spelled-length : (b : List ℕ) → length (needs_at b) ≡ 7
unfolding needs_at
spelled-length b = refl

pub spelled_at : (b : List ℕ) (i : ℕ) (d : Need) → i < 7 → get_or (needs_at b) i d ≡ need_at b (i + 1)
unfolding needs_at
spelled_at b zero d h = refl
spelled_at b (suc zero) d h = refl
spelled_at b (suc (suc zero)) d h = refl
spelled_at b (suc (suc (suc zero))) d h = refl
spelled_at b (suc (suc (suc (suc zero)))) d h = refl
spelled_at b (suc (suc (suc (suc (suc zero))))) d h = refl
spelled_at b (suc (suc (suc (suc (suc (suc zero)))))) d h = refl
spelled_at b (suc (suc (suc (suc (suc (suc (suc i))))))) d h = absurd (omega arith)
