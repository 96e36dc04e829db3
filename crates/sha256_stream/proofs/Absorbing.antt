-- A part taken by cases, one that fills no block and one that fills the block begun: both are what Stream says.
use Rattle.std.proofs.Common.{◌≡◌, ℕ, suc, ◌+◌, ◌-◌, ◌*◌, ◌/◌, ◌%◌, ◌^◌, ◌<◌, ◌≤◌, List, ◌++◌, length, take, drop, sym, refl, ap, ◌∙◌, arith, length-append, length-drop, length-take-le, take_all, drop_at}
use lib.Seq.{take-append-add, drop-append-add, take-append-le}
use lib.Seq.{take-length, paste, take-paste, length-paste}
use Rattle.sha256_block.specs.Sha256.{compress, blocks}
use Rattle.sha256_block.proofs.Compression.{blocks_suc}
use Rattle.sha256_stream.specs.declared.Hash.{Hash}
use Rattle.sha256_stream.specs.Stream.{held_with, worked_in, pending_after, absorbed}

-- what is held back has as many bytes as the count leaves over
pub length_begun : (h : Hash) → length h.pending ≡ 64 → length (take (h.total % 64) h.pending) ≡ h.total % 64
length_begun h hl = length-take-le (h.total % 64) h.pending (omega arith)

-- the three fields
by_fields : (h r : Hash) (p : List ℕ) → r.chain ≡ worked_in h.chain (held_with h p)
    → r.pending ≡ pending_after h.pending (held_with h p) → r.total ≡ (h.total + length p) % 2 ^ 64 → r ≡ absorbed h p
unfolding absorbed
by_fields h r p ec ep et = λ i. record { chain = ec i; pending = ep i; total = et i }

module _ (h : Hash) (p : List ℕ) (hl : length h.pending ≡ 64) where
  abbrev u : ℕ
  u = h.total % 64

  abbrev x : List ℕ
  x = take u h.pending

  length-x : length x ≡ u
  length-x = length_begun h hl

  length-l : length (x ++ p) ≡ u + length p
  length-l = length-append x p ∙ ap (λ (k : ℕ). k + length p) length-x

  -- a part that fills no block
  pub absorbed_short : (r : Hash) → u + length p < 64 → r.chain ≡ h.chain → r.pending ≡ paste h.pending u p (length p)
      → r.total ≡ (h.total + length p) % 2 ^ 64 → r ≡ absorbed h p
  unfolding blocks
  absorbed_short r s ec ep et =
      let l : List ℕ = x ++ p in
      let b : List ℕ = drop (length l) h.pending in
      let d : length l / 64 ≡ 0 = omega (arith, length-l) in
      let e : length l % 64 ≡ length l = omega (arith, length-l) in
      let lb : length (l ++ b) ≤ 64 = simp (length-append, length-drop) (omega (arith, length-x)) in
      let f : r.pending ≡ l ++ b =
      ep ∙ ap (λ (k : List ℕ). x ++ k ++ drop (u + length p) h.pending) (take-length p)
      ∙ ap (λ (k : ℕ). l ++ drop k h.pending) (sym length-l) in
      let g : drop (length l) (take 64 (l ++ b)) ≡ b = ap (drop (length l)) (take_all 64 (l ++ b) lb) ∙ drop_at l b (length l) refl in
      by_fields h r p (rw (d, ec)) (rw (d, e, g) f) et

  -- a part that fills the block begun, and then as many as it can
  pub absorbed_long : (r : Hash) (full : List ℕ) (room rest : ℕ) → room ≡ 64 - u → room ≤ length p → rest ≡ (length p - room) % 64
      → full ≡ paste h.pending u p room
      → r.chain ≡ blocks ((length p - room) / 64) (compress h.chain (take 64 full)) (drop room p)
      → r.pending ≡ paste full 0 (drop (length p - rest) p) rest
      → r.total ≡ (h.total + length p) % 2 ^ 64 → r ≡ absorbed h p
  absorbed_long r full room rest er fits es ef ec ep et =
      let l : List ℕ = x ++ p in
      let v : List ℕ = drop (length p - rest) p in
      let d : length l / 64 ≡ suc ((length p - room) / 64) = omega (arith, length-l) in
      let e : 0 + rest ≡ length l % 64 = omega (arith, length-l) in
      let b : 64 ≡ length x + room = omega (arith, length-x) in
      let b' : 64 ≡ u + room = omega arith in
      let t : take 64 l ≡ x ++ take room p = ap (λ (k : ℕ). take k l) b ∙ take-append-add x p room in
      let g : drop 64 l ≡ drop room p = ap (λ (k : ℕ). drop k l) b ∙ drop-append-add x p room in
      let z : length l / 64 * 64 ≡ length x + (length p - rest) = omega (arith, length-l, length-x) in
      let f : take 64 full ≡ take 64 l =
      ap (take 64) ef ∙ ap (λ (k : ℕ). take k (paste h.pending u p room)) b'
      ∙ take-paste h.pending u p room (omega arith) fits ∙ sym t in
      let lf : length full ≤ 64 = omega (arith, ap length ef ∙ length-paste h.pending u p room (omega arith) fits) in
      let w : full ≡ take 64 (l ++ drop (length l) h.pending) =
      sym (take_all 64 full lf) ∙ f ∙ sym (take-append-le 64 l (drop (length l) h.pending) (omega (arith, length-l))) in
      let y : take rest v ≡ drop (length l / 64 * 64) l =
      take_all rest v (simp length-drop (omega arith))
      ∙ sym (ap (λ (k : ℕ). drop k l) z ∙ drop-append-add x p (length p - rest)) in
      by_fields h r p
      (rw (d, blocks_suc ((length p - room) / 64) h.chain l, g, ← f, ec))
      (ep ∙ ap (λ (k : List ℕ). k ++ drop (0 + rest) full) y ∙ ap (λ (k : ℕ). drop (length l / 64 * 64) l ++ drop k full) e
      ∙ ap (λ (k : List ℕ). drop (length l / 64 * 64) l ++ drop (length l % 64) k) w)
      et
