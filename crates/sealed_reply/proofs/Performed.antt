-- The reply to a granted operation is the rules' reply.
-- s: the scope. x: the frame's fields. m: the medium. k: where the operation works. space: the reply space. h: the keyed hash that has taken
-- credential and request under the credential key.
use Rattle.std.specs.Prelude.{◌≡◌, Bool, true, false, cond, List, [], ◌++◌, ℕ, ◌+◌, ◌≤◌, length, take}
use Rattle.std.proofs.Math.Path.{refl, ap}
use Rattle.std.proofs.Common.{sym, ◌∙◌, append-nil, append_assoc, arith, length-append, le-leb}
use Rattle.lemmas.specs.Tests.{◌is◌}
use Rattle.lemmas.specs.Lists.{splice}
use Rattle.lemmas.specs.Parts.{length-splice, splice_front}
use Rattle.lemmas.specs.Layout.{splice_after_size}
use Rattle.lemmas.specs.BigEndian.{big_endian}
use Rattle.digest.specs.Hmac.{hmac}
use Rattle.digest.specs.DigestLaws.{length-hmac}
use Rattle.digest.specs.declared.mac.Mac.{Mac}
use Rattle.digest.specs.Mac.{mac_absorbed, mac_finished}
use Rattle.digest.specs.Keyed.{Keyed}
use Rattle.digest.specs.KeyedLaws.{keyed_more, finished-keyed}
use Rattle.rules.specs.declared.Object.{Object}
use Rattle.rules.specs.declared.Operation.{Operation}
use Rattle.rules.specs.Frame.{Fields, digest_size}
use Rattle.rules.specs.Scope.{Scope}
use Rattle.rules.specs.Operations.{credential_key, head_size, head, headed, sealed, reply, reply_covered, perform}
use Rattle.effect.specs.declared.GrantContext.{GrantContext}
use Rattle.effect.specs.Performed.{ContextFits, BytesFit, reached_by}
use Rattle.result.specs.Result.{result_put}
use Rattle.result.specs.Performed.{result_is}
use Rattle.sealed_reply.specs.Reply.{seal_put, result_reply, reply_put}

module _ (o : Operation) (s : Scope Object) (x : Fields) (m : List ℕ) (k : GrantContext)
    (w : ContextFits o s x.cred (reached_by x) k) (fit : BytesFit o s x m) (n : ℕ) (n_is : n ≡ length (perform o s x m).result) (space : List ℕ)
    (room : head_size + n + cond (x.req.level is 2) digest_size 0 ≤ length space)
    (h : Mac) (e : Keyed h (credential_key s.keys x) (x.credential ++ x.request)) where
  abbrev result : List ℕ
  result = (perform o s x m).result

  abbrev H : List ℕ
  H = head x.req n

  head_long : length H ≡ head_size
  unfolding head big_endian
  head_long = refl

  -- head and result
  front_is : result_reply x.req n o k m space ≡ splice space 0 (H ++ result)
  front_is =
      let l : length (splice space 0 H) ≡ length space = length-splice space H 0 (omega (arith, head_long, room)) in
      ap (result_put o k m) (rw (le-leb (0 + length H) (length space) (omega (arith, head_long, room))) refl)
      ∙ result_is o s x m k w fit (splice space 0 H) (omega (arith, n_is, room))
      ∙ splice_after_size space H result 0 head_size (omega (arith, head_long)) (omega (arith, n_is, room))

  headed_is : headed x.req result ≡ H ++ result
  unfolding headed
  headed_is = ap (λ (i : ℕ). head x.req i ++ result) (sym n_is)

  abbrev key : List ℕ
  key = credential_key s.keys x

  -- the digest, at level 2
  abbrev D : List ℕ
  D = hmac key (reply_covered x.credential x.request (H ++ result))

  sealed_by : (b : Bool) → head_size + n + cond b digest_size 0 ≤ length space
      → cond b (seal_put h (head_size + n) (splice space 0 (H ++ result)))
      (splice space 0 (H ++ result)) ≡ splice space 0 (H ++ result ++ cond b D [])
  sealed_by false w = ap (splice space 0) (sym (append-nil (H ++ result)))
  sealed_by true w =
      let front : List ℕ = splice space 0 (H ++ result) in
      let lf : length (H ++ result) ≡ head_size + n = length-append H result ∙ omega (arith, head_long, n_is) in
      let l : length front ≡ length space = length-splice space (H ++ result) 0 (omega arith) in
      let digest : mac_finished (mac_absorbed h (take (head_size + n) front)) ≡ D =
      finished-keyed _ key (x.credential ++ x.request ++ take (head_size + n) front) (keyed_more h key _ e (take (head_size + n) front))
      ∙ ap (λ (y : List ℕ). hmac key (x.credential ++ x.request ++ y))
      (splice_front space (H ++ result) (head_size + n) lf)
      ∙ ap (hmac key) (append_assoc x.credential x.request (H ++ result)) in
      rw (le-leb (head_size + n + digest_size) (length front) (omega arith), digest)
      (splice_after_size space (H ++ result) D 0 (head_size + n) (omega arith)
      (omega (arith, length-hmac key (reply_covered x.credential x.request (H ++ result)))))

  pub reply_is : reply_put h x.req n o k m space
      ≡ splice space 0 (reply s.keys x result)
  unfolding reply sealed
  reply_is = rw (front_is, headed_is) (sealed_by (x.req.level is 2) room)
