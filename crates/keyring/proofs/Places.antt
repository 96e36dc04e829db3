-- A key's bytes copied to their place and its own byte stored.
use mathlib.Core.Path.{◌≡◌, ap, sym, ◌∙◌}
use mathlib.Core.List.{List, [], ◌∷◌, ◌++◌, append_assoc}
use Prim.Native.Nat.{ℕ, ◌+◌, ◌*◌, ◌<◌}
use native.Mathlib.Omega.{arith}
use lib.ListN.{length, set, take, drop}
use lib.Seq.{sets-eq}
use borrow.Author.Tests.{lt-ltb, eq-eqb}
use borrow.Rule.Slice.PartMut.{put_mid}
use Rattle.std.proofs.lemmas.List.{drop-drop}
use Rattle.lemmas.specs.Lists.{splice}
use Rattle.lemmas.specs.Parts.{length-splice}
use Rattle.rules.specs.Frame.{key_size}
use Rattle.keyring.specs.Keys.{keys_size, flags_from, key_count, key_stored}

-- bytes copied into a part of a list
put_splice : (a k : ℕ) (s new : List ℕ) → length new ≡ k → put_mid a k s new ≡ splice s a new
unfolding splice
put_splice a k s new e =
    ap (λ (l : List ℕ). take a s ++ (new ++ l)) (drop-drop k a s ∙ ap (λ (n : ℕ). drop (a + n) s) (sym e))

store_splice : (s : List ℕ) (i x : ℕ) → i < length s → set s i x ≡ splice s i (x ∷ [])
unfolding splice
store_splice s i x h = sets-eq (x ∷ []) s i (omega arith) ∙ append_assoc (take i s) (x ∷ []) (drop (i + 1) s)

pub stored : (j k : ℕ) (new ks copy : List ℕ) → j < key_count → length ks ≡ keys_size → length new ≡ key_size
    → k ≡ key_size → copy ≡ new → set (put_mid (key_size * j) k ks copy) (flags_from + j) 1 ≡ key_stored j new ks
unfolding key_stored
stored j k new ks copy h l f e c =
    let first : put_mid (key_size * j) k ks copy ≡ splice ks (key_size * j) new
    = ap (put_mid (key_size * j) k ks) c ∙ put_splice (key_size * j) k ks new (f ∙ sym e) in
    let long : length (splice ks (key_size * j) new) ≡ keys_size = length-splice ks new (key_size * j) (omega arith) ∙ l in
    rw (lt-ltb j key_count h, eq-eqb (length ks) keys_size l, eq-eqb (length new) key_size f, first)
    (store_splice (splice ks (key_size * j) new) (flags_from + j) 1 (omega arith))
