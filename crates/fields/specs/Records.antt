-- Document 01, "Credential, 36 bytes" and "Request, 28 bytes, and frame", and change 6 of document 02: credential and request in
-- a lent slice, whatever its length. s: the slice's bytes. c, r: the numbers of a credential and of a request.
use Rattle.std.specs.Prelude.{◌≡◌, refl, Bool, cond, false, true, List, [], ◌∷◌, ◌++◌, ℕ, ◌+◌, ◌≤◌, ◌<◌, ◌^◌, leb, get_or, length, replicate}
use Rattle.std.proofs.Common.{sym, ap, ◌∙◌, arith, leb-false}
use Rattle.std.proofs.lemmas.Bool.{lt-leb}
use Rattle.lemmas.specs.Fill.{replicate_at}
use Rattle.lemmas.specs.Lists.{every}
use Rattle.lemmas.specs.Tests.{◌is◌}
use Rattle.lemmas.specs.BigEndian.{AllFit, fits_at, layout_size, number_at, power_positive, read_fits, read_all}
use Rattle.octets.specs.Fields.{fields-small, fields_fit, fields_read}
use Rattle.octets.specs.Numbers.{number_in}
use Rattle.rules.specs.declared.Credential.{Credential}
use Rattle.rules.specs.declared.Request.{Request}
use Rattle.rules.specs.Frame.{
  credential_at,
  credential_length,
  credential_of,
  credential_size,
  credential_widths,
  digest_size,
  frame_length,
  group_magic,
  group_request_size,
  group_widths,
  is_group_request,
  plain_widths,
  request-least,
  request_magic_lem,
  request-size,
  request_widths_lem,
  request_at,
  request_length,
  request_of,
  request_size,
}

-- the one at place i; all zeros where it is not all there
abbrev pub credential_in : List ℕ → ℕ → Credential
credential_in s i = cond (leb (i + credential_length (credential_at s i)) (length s)) (credential_at s i) (credential_of [])

abbrev pub request_in : List ℕ → ℕ → Request
request_in s i = cond (leb (i + request_length (request_at s i)) (length s)) (request_at s i) (request_of [])

-- how long a frame is from its request on: request, data and digest
abbrev pub rest_length : Request → ℕ
rest_length r = request_length r + r.n + digest_size

pub rest_behind : (k : ℕ) (r : Request) → k + rest_length r ≡ frame_length k r
rest_behind k r = omega arith

-- a request has a member only with a group's mark
pub plain_member : (s : List ℕ) (i : ℕ) → is_group_request (request_at s i) ≡ false → (request_at s i).member ≡ 0
unfolding request_at read_all
plain_member s i e =
    let plain : (number_at s i 2 is group_magic) ≡ false = sym (ap (λ (m : ℕ). m is group_magic) (request_magic_lem s i)) ∙ e in
    rw plain refl

-- no credential is longer than this
pub credential_most : (c : Credential) → credential_length c ≤ credential_size
unfolding credential_length
credential_most c = omega arith

-- ---- the credential is what is read by its layout into zeros
either : {A : Type 0} (f : List ℕ → A) (b : Bool) (v w : List ℕ) → f (cond b v w) ≡ cond b (f v) (f w)
either f true v w = refl
either f false v w = refl

pub credential-read : (s : List ℕ) (i : ℕ)
    → credential_of (fields_read s i credential_widths (replicate (length credential_widths) 0)) ≡ credential_in s i
unfolding credential_at credential_length every layout_size
credential-read s i =
    either credential_of (leb (i + credential_size) (length s)) (read_all s i credential_widths)
    (replicate (length credential_widths) 0)

-- ---- the request is what is read so by the layout that its mark tells. The numbers of both forms are nine
abbrev pub numbers_read : Bool → List ℕ → ℕ → List ℕ
numbers_read group s i =
    cond group
    (fields_read s i group_widths (replicate (length group_widths) 0))
    (fields_read s i plain_widths (replicate (length plain_widths) 0) ++ (0 ∷ []))

unfoldable pub request_read : List ℕ → ℕ → List ℕ
request_read s i = numbers_read (number_in s i 2 is group_magic) s i

by_form : (s : List ℕ) (i : ℕ) (group : Bool)
    → let ws = cond group group_widths plain_widths in
    request_of (numbers_read group s i) ≡ cond (leb (i + layout_size ws) (length s)) (request_of (read_all s i ws)) (request_of [])
unfolding every layout_size read_all
by_form s i true =
    either request_of (leb (i + group_request_size) (length s)) (read_all s i group_widths)
    (replicate (length group_widths) 0)
by_form s i false =
    either (λ v. request_of (v ++ (0 ∷ []))) (leb (i + request_size) (length s)) (read_all s i plain_widths)
    (replicate (length plain_widths) 0)

pub request-read : (s : List ℕ) (i : ℕ) → request_of (request_read s i) ≡ request_in s i
unfolding request_read request_at
request-read s i = go (leb (i + 2) (length s)) refl
  where
    go : (b : Bool) → leb (i + 2) (length s) ≡ b → request_of (request_read s i) ≡ request_in s i
    go true e =
        rw e (by_form s i (number_at s i 2 is group_magic)
        ∙ ap (λ (n : ℕ). cond (leb (i + n) (length s)) (request_at s i) (request_of [])) (request_widths_lem s i))
    go false e =
        let short : length s < i + 2 = leb-false (i + 2) (length s) e in
        let no : leb (i + request_length (request_at s i)) (length s) ≡ false =
        lt-leb (i + request_length (request_at s i)) (length s) (omega (arith, request-least (request_at s i))) in
        let none : leb (i + layout_size plain_widths) (length s) ≡ false =
        lt-leb (i + layout_size plain_widths) (length s) (omega (arith, request-size 0)) in
        rw (e, no) (by_form s i false ∙ rw none refl)

-- ---- and each of its numbers is below 256 to its field's width
fits-append : (ws vs us xs : List ℕ) → AllFit ws vs → AllFit us xs → AllFit (ws ++ us) (vs ++ xs)
unfolding AllFit
fits-append [] [] us xs f g = g
fits-append [] (v ∷ vs) us xs f g = absurd f
fits-append (w ∷ ws) [] us xs f g = absurd f
fits-append (w ∷ ws) (v ∷ vs) us xs f g = (f.0, fits-append ws vs us xs f.1 g)

pub request-small : (s : List ℕ) (i : ℕ) → ((k : ℕ) → get_or s k 0 < 256)
    → (k : ℕ) → get_or (request_read s i) k 0 < 256 ^ get_or group_widths k 0
unfolding request_read AllFit
request-small s i bytes k = go (number_in s i 2 is group_magic)
  where
    plain : (b : Bool)
        → get_or (cond b (read_all s i plain_widths) (replicate (length plain_widths) 0) ++ (0 ∷ [])) k 0 < 256 ^ get_or group_widths k 0
    plain true =
        fits_at group_widths (read_all s i plain_widths ++ (0 ∷ []))
        (fits-append plain_widths (read_all s i plain_widths) (4 ∷ []) (0 ∷ []) (read_fits s i plain_widths bytes)
        (power_positive 4, tt)) k
    plain false = rw (replicate_at {A = ℕ} (length group_widths) k 0) (power_positive (get_or group_widths k 0))

    go : (b : Bool) → get_or (numbers_read b s i) k 0 < 256 ^ get_or group_widths k 0
    go true = fields-small s i group_widths (length group_widths) bytes k
    go false = plain (fields_fit (length s) i plain_widths (length plain_widths))
