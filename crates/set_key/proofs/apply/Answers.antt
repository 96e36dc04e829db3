-- Operation 7 puts the new key in place where the signing key is set, and no other operation changes a key.
use mathlib.Core.Path.{◌≡◌, refl, sym, ap, ◌∙◌}
use mathlib.Core.List.{List}
use Prim.Native.Nat.{ℕ, ◌*◌}
use Rattle.std.specs.Prelude as code
use Rattle.std.proofs.lemmas.Option.{cond_some}
use Rattle.rules.specs.declared.Operation.{Operation}
use Rattle.rules.specs.declared.Operation.TheVariants.{SetKey}
use Rattle.lemmas.specs.Lists.{part}
use Rattle.digest.specs.Hmac.{hmac}
use Rattle.rules.specs.Frame.{key_size}
use Rattle.keyring.specs.Keys.{is_set, set_key, target_index, key_stored}
use Rattle.set_key.specs.Keys.{keys_after}
use Rattle.set_key.proofs.apply.Goals as goal

-- operation 7, where the signing key, key j, is set
put : (target slot p j : ℕ) (key signed ks new s : List ℕ) → code.Some key ≡ set_key ks j → new ≡ hmac key signed
    → s ≡ key_stored (target_index slot p target) new ks → s ≡ keys_after (SetKey target) j slot p signed ks
put target slot p j key signed ks new s h n k =
    let w = cond_some (is_set ks j) (part ks (key_size * j) key_size) key (sym h) in
    k ∙ (rw (w.0, w.1, n) refl)

pub returns : goal.returns
returns c =
    let a = c.args in
    put c.in-SetKey.target a.slot a.p a.j c.in-Some.key.now a.signed.now a.keys.now c.of-new.result c.store_key.new.keys
    c.in-Some.ensures c.of-new.ensures c.store_key.ensures
    ∙ ap (λ (o : Operation). keys_after o a.j a.slot a.p a.signed.now a.keys.now) (sym c.in-SetKey.is)
