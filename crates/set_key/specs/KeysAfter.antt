-- The keys' bytes after a granted operation are the rules' keys after it.
-- ks: the keys' bytes. s: the scope. x: the frame's fields. m: the medium.
use Rattle.std.specs.Prelude.{◌≡◌, List, ◌++◌, ℕ, length}
use Rattle.std.proofs.Common.{sym, ◌∙◌}
use Rattle.std.proofs.Math.Option.{some}
use Rattle.digest.specs.DigestLaws.{length-hmac}
use Rattle.rules.specs.declared.Object.{Object}
use Rattle.rules.specs.declared.Operation.{Operation}
use Rattle.rules.specs.declared.Operation.TheVariants.{Read, Write, Look, Raise, Create, Delete, SetKey, LoadTable}
use Rattle.rules.specs.Frame.{Fields}
use Rattle.rules.specs.Scope.{Scope}
use Rattle.rules.specs.Operations.{key_in, signing, new_key, key_set, perform}
use Rattle.keyring.specs.Keys.{keys_size, keys_in, key_index}
use Rattle.keyring.specs.KeyLaws.{slot-key, key_put_lem, key_some}
use Rattle.set_key.specs.Keys.{keys_after}

-- under a key that is set: row 8 refuses any other
pub keys_after_lem : (o : Operation) (s : Scope Object) (x : Fields) (m ks : List ℕ) (j : ℕ)
    → j ≡ key_index x.cred.slot x.cred.partition → length ks ≡ keys_size
    → s.keys ≡ keys_in ks → key_in s.keys x.cred.partition x.cred.slot ≡ some (signing s.keys x)
    → keys_in (keys_after o j x.cred.slot x.cred.partition (x.request ++ x.payload) ks)
    ≡ (perform o s x m).scope.keys
unfolding perform key_set new_key
keys_after_lem (Read a b) s x m ks j i e k h = sym k
keys_after_lem (Write a b) s x m ks j i e k h = sym k
keys_after_lem Look s x m ks j i e k h = sym k
keys_after_lem Raise s x m ks j i e k h = sym k
keys_after_lem (Create a b) s x m ks j i e k h = sym k
keys_after_lem Delete s x m ks j i e k h = sym k
keys_after_lem (SetKey a) s x m ks j i e k h =
    let slot = x.cred.slot in
    let p = x.cred.partition in
    let secret = signing (keys_in ks) x in
    let set = key_some ks (key_index slot p) secret e (sym (slot-key ks e p slot) ∙ (rw k at h)) in
    rw (k, i, set.0, set.1) (key_put_lem ks (new_key (keys_in ks) x) slot p a e (length-hmac secret (x.request ++ x.payload)))
keys_after_lem LoadTable s x m ks j i e k h = sym k
