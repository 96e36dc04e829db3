-- What a hash holds after a message taken part by part, and that its digest is the message's: by the law that blocks can be
-- worked in from any of them on.
use Rattle.std.specs.Prelude.{◌≡◌, ℕ, zero, suc, ◌+◌, ◌*◌, ◌/◌, ◌%◌, ◌^◌, ◌≤◌, List, [], ◌++◌, length, take, drop, refl}
use Rattle.std.proofs.Math.Path.{sym, ap}
use Rattle.std.proofs.Common.{◌∙◌}
use native.Mathlib.Omega.{arith}
use Rattle.std.proofs.Math.ListN.{length-append, length-drop}
use Rattle.std.proofs.Math.Pow.{mod-mod-pow}
use Rattle.std.proofs.Math.Seq.{drop-drop, take_at}
use Rattle.std.proofs.lemmas.List.{drop-append-le, take-append-le}
use Rattle.lemmas.specs.BigEndian.{big_endian, digit}
use Rattle.lemmas.specs.BinaryLaws.{bits_mod}
use Rattle.sha256_block.specs.declared.State.{State}
use Rattle.sha256_block.specs.Sha256.{compress, blocks, padding, pad, bytes, sha256, H₀}
use Rattle.sha256_block.proofs.PaddingCasesLaws.{same_blocks}
use Rattle.sha256_block.proofs.PaddingLaws.{last_by_cases}
use Rattle.sha256_block.proofs.Compression.{blocks_suc, blocks-add}
use Rattle.sha256_stream.specs.declared.Hash.{Hash}
use Rattle.sha256_stream.specs.Stream.{started, held_with, worked_in, pending_after, absorbed, finished}
use Rattle.sha256_stream.specs.Absorbed.{Absorbed}

-- ---- blocks

-- blocks look no further than their bytes
blocks-append : (q : ℕ) (s : State) (a b : List ℕ) → q * 64 ≤ length a → blocks q s (a ++ b) ≡ blocks q s a
unfolding blocks
blocks-append zero s a b h = refl
blocks-append (suc q) s a b h =
    let l : 64 ≤ length a = omega arith in
    rw (
      blocks_suc q s (a ++ b),
      blocks_suc q s a,
      take-append-le 64 a b l,
      drop-append-le 64 a b l,
      blocks-append q (compress s (take 64 a)) (drop 64 a) b (simp length-drop (omega arith)),
    )

-- the blocks of m ++ p, from those of m on
blocks_on : (q k : ℕ) (s : State) (m p : List ℕ) → q * 64 ≤ length m
    → blocks (q + k) s (m ++ p) ≡ blocks k (blocks q s m) (drop (q * 64) m ++ p)
blocks_on q k s m p h = rw (blocks-add q k s (m ++ p), blocks-append q s m p h, drop-append-le (q * 64) m p h)

-- ---- a count modulo 2 ^ 64

count-mod : (n : ℕ) → big_endian 8 (n % 2 ^ 64) ≡ big_endian 8 n
unfolding big_endian digit
count-mod n =
    rw (
      bits_mod 8 0 56 n,
      bits_mod 8 8 48 n,
      bits_mod 8 16 40 n,
      bits_mod 8 24 32 n,
      bits_mod 8 32 24 n,
      bits_mod 8 40 16 n,
      bits_mod 8 48 8 n,
      mod-mod-pow n 56 8,
    )

-- lengths that are the same modulo 2 ^ 64 have the same eight bytes
pub same_field : (l k : ℕ) → l % 2 ^ 64 ≡ k % 2 ^ 64 → big_endian 8 l ≡ big_endian 8 k
same_field l k e = sym (count-mod l) ∙ ap (big_endian 8) e ∙ count-mod k

-- ---- the laws

-- a hash of no bytes has taken none
pub absorbed_none : Absorbed started []
unfolding started blocks
absorbed_none = record { total = refl; chain = refl; pending = refl }

module _ (h : Hash) (m : List ℕ) (a : Absorbed h m) where
  -- what is held back: the bytes after the last whole block
  held_is : (p : List ℕ) → held_with h p ≡ drop (length m / 64 * 64) m ++ p
  held_is p =
      let e : h.total % 64 ≡ length m % 64 = omega (arith, a.total) in
      rw (e, a.pending)

  length-held : (p : List ℕ) → length (held_with h p) ≡ length m % 64 + length p
  length-held p = ap length (held_is p) ∙ simp (length-append, length-drop) (omega arith)

  whole : (p : List ℕ) → length (m ++ p) / 64 ≡ length m / 64 + length (held_with h p) / 64
  whole p = omega (arith, length-append m p, length-held p)

  -- working on from there is working in everything
  worked_on : (p : List ℕ) → worked_in h.chain (held_with h p) ≡ worked_in H₀ (m ++ p)
  worked_on p =
      let k : ℕ = length (held_with h p) / 64 in
      let w : length m / 64 * 64 ≤ length m = omega arith in
      ap (λ (l : List ℕ). blocks k h.chain l) (held_is p)
      ∙ ap (λ (s : State). blocks k s (drop (length m / 64 * 64) m ++ p)) a.chain
      ∙ sym (blocks_on (length m / 64) k H₀ m p w) ∙ ap (λ (n : ℕ). blocks n H₀ (m ++ p)) (sym (whole p))

  -- one part more
  pub absorbed_more : (p : List ℕ) → Absorbed (absorbed h p) (m ++ p)
  unfolding absorbed
  absorbed_more p =
      let l : List ℕ = held_with h p in
      let q : ℕ = length l / 64 in
      let n : length (m ++ p) ≡ length m + length p = length-append m p in
      let u : length (m ++ p) % 64 ≡ length l % 64 = omega (arith, length-held p) in
      let w : length m / 64 * 64 ≤ length m = omega arith in
      let z : length m / 64 * 64 + q * 64 ≡ (length m / 64 + q) * 64 = omega arith in
      let d : length (drop (q * 64) l) ≡ length l % 64 = length-drop (q * 64) l ∙ omega arith in
      let f : drop (q * 64) l ≡ drop (length (m ++ p) / 64 * 64) (m ++ p) =
      ap (drop (q * 64)) (held_is p ∙ sym (drop-append-le (length m / 64 * 64) m p w))
      ∙ drop-drop (q * 64) (length m / 64 * 64) (m ++ p)
      ∙ ap (λ (k : ℕ). drop k (m ++ p)) (z ∙ ap (λ (k : ℕ). k * 64) (sym (whole p))) in
      record {
        total = omega (arith, a.total, n);
        chain = worked_on p;
        pending =
            ap (λ (k : ℕ). take k (pending_after h.pending l)) u
            ∙ take_at (drop (q * 64) l) (drop (length l % 64) (take 64 (l ++ drop (length l) h.pending))) (length l % 64) d
            ∙ f;
      }

  -- the count's padding is the length's: after the same last block come the same blocks
  same_padding : held_with h (padding h.total) ≡ held_with h (padding (length m))
  same_padding =
      let r : List ℕ = drop (length m / 64 * 64) m in
      let n : length r ≡ length m % 64 = length-drop (length m / 64 * 64) m ∙ omega arith in
      held_is (padding h.total) ∙ last_by_cases r h.total (omega (arith, n, a.total))
      ∙ same_blocks r (8 * h.total) (8 * length m) (same_field (8 * h.total) (8 * length m) (omega (arith, a.total)))
      ∙ sym (held_is (padding (length m)) ∙ last_by_cases r (length m) n)

  -- the digest of the bytes taken
  pub finished-absorbed : finished h ≡ sha256 m
  unfolding finished sha256 pad
  finished-absorbed =
      ap (λ (l : List ℕ). bytes (worked_in h.chain l)) same_padding ∙ ap bytes (worked_on (padding (length m)))

-- a digest has 32 bytes, whatever the hash holds
pub length-finished : (h : Hash) → length (finished h) ≡ 32
unfolding finished big_endian
length-finished h = refl
