-- The credential key, then credential and request: keyed-none and keyed-more.
use mathlib.Core.Path.{◌≡◌, sym, ap, subst, ◌∙◌}
use mathlib.Core.List.{List, []}
use Prim.Native.Nat.{ℕ}
use lib.ListN.{take}
use Rattle.digest.specs.declared.mac.Mac.{Mac}
use Rattle.digest.specs.Hmac.{hmac}
use Rattle.digest.specs.Mac.{mac_started, mac_absorbed}
use Rattle.digest.specs.Keyed.{Keyed}
use Rattle.digest.specs.KeyedLaws.{keyed_none, keyed_more}
use Rattle.drive.proofs.admission.records_mac.Goals as goal

pub returns : goal.returns
returns c =
    let a = c.args in
    let k : List ℕ = hmac a.key.now (take a.starts.request a.frame.now) in
    let p : List ℕ = take a.starts.payload a.frame.now in
    let e : c.absorb.result ≡ mac_absorbed (mac_started k) p =
    c.absorb.ensures
    ∙ ap (λ (h : Mac). mac_absorbed h p) (c.start.ensures ∙ ap mac_started c.of-secret.ensures) in
    subst (λ (h : Mac). Keyed h k p) (sym e) (keyed_more (mac_started k) k [] (keyed_none k) p)
