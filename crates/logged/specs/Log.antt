-- A log in a lent space: the bytes of a history, from its first on, as far as the space has room. log: the space.
-- at: how many bytes of it the log has. h: the history.
use Rattle.std.specs.Prelude.{◌≡◌, List, [], ◌++◌, Result, Ok, Err, ℕ, ◌+◌, ◌-◌, ◌≤◌, min, length, take, drop}
use Rattle.std.proofs.Common.{sym, ap, ◌∙◌, append-nil, arith, take_all, take-add, take_at, drop_at, length-take-le, le-leb}
use Rattle.std.proofs.Math.Decide.{dec_le}
use Rattle.std.proofs.lemmas.List.{take-append-le}
use Rattle.std.proofs.Math.Seq.{take-nil}
use Rattle.lemmas.specs.Parts.{length-splice}
use Rattle.octets.specs.Numbers.{bytes_put}
use Rattle.octets.specs.Behind.{put_behind}
use Rattle.logged.specs.declared.ReadFailed.{ReadFailed}

-- the log is of the history h
abbrev pub Logged : List ℕ → ℕ → List ℕ → Type 0
Logged log at h = (at ≤ length log) × (take at log ≡ take (length log) h)

-- bytes have been added to it
abbrev pub Added : List ℕ → ℕ → List ℕ → List ℕ → ℕ → Type 0
Added log at bytes log' at' = Logged log' at' (take at log ++ bytes)

-- how many bytes a read brought: none where it failed
abbrev pub count_of : Result ℕ ReadFailed → ℕ
count_of (Ok n) = n
count_of (Err e) = 0

-- ---- laws
-- of no history there is a log in any space
pub logged_none : (log : List ℕ) → Logged log 0 []
logged_none log = (omega arith, sym (take-nil (length log)))

-- what comes after the room is full does not count
pub take_again : (n : ℕ) (h bytes : List ℕ) → take n (take n h ++ bytes) ≡ take n (h ++ bytes)
take_again n h bytes = go (dec_le (length h) n)
  where
    go : Dec (length h ≤ n) → take n (take n h ++ bytes) ≡ take n (h ++ bytes)
    go (yes l) = ap (λ (x : List ℕ). take n (x ++ bytes)) (take_all n h l)
    go (no l) =
        take_at (take n h) bytes n (length-take-le n h (omega arith))
        ∙ sym (take-append-le n h bytes (omega arith))

-- the history goes on by what is added
pub logged_more : (log : List ℕ) (at : ℕ) (h bytes log' : List ℕ) (at' : ℕ) → length log' ≡ length log → Logged log at h
    → Added log at bytes log' at' → Logged log' at' (h ++ bytes)
logged_more log at h bytes log' at' e l a = (
  a.0,
  a.1
      ∙ ap (λ (x : List ℕ). take (length log') (x ++ bytes)) l.1
      ∙ ap (λ (n : ℕ). take (length log') (take n h ++ bytes)) (sym e)
      ∙ take_again (length log') h bytes,
)

-- nothing added
pub added_none : (log : List ℕ) (at : ℕ) → at ≤ length log → Added log at [] log at
added_none log at h = (
  h,
  sym (ap (λ (x : List ℕ). take (length log) x) (append-nil (take at log))
      ∙ take_all (length log) (take at log) (omega (arith, length-take-le at log h))),
)

-- a number of bytes over those that there are is all of them
pub take_most : (n : ℕ) (s : List ℕ) → take (min n (length s)) s ≡ take n s
take_most n s = go (dec_le n (length s))
  where
    go : Dec (n ≤ length s) → take (min n (length s)) s ≡ take n s
    go (yes l) = let e : min n (length s) ≡ n = omega (arith, l) in ap (λ (k : ℕ). take k s) e
    go (no l) =
        let e : min n (length s) ≡ length s = omega arith in
        ap (λ (k : ℕ). take k s) e
        ∙ take_all (length s) s (omega arith)
        ∙ sym (take_all n s (omega arith))

swapped : (a b : ℕ) → min a b ≡ min b a
swapped a b = omega arith

-- bytes are added by putting as many as there is room for behind the log. A place past the end of the space is its end
pub added_by : (log : List ℕ) (at : ℕ) (bytes : List ℕ) (end n : ℕ) (log' : List ℕ)
    → end ≡ min at (length log)
    → n ≡ min (length bytes) (length log - end)
    → log' ≡ bytes_put log end (take n bytes)
    → Added log at bytes log' (end + n)
added_by log at bytes end n log' d e p =
    let k : ℕ = length log - end in
    let front : List ℕ = take end log in
    let h : end ≤ length log = omega (arith, d) in
    let long : length (take n bytes) ≡ n = length-take-le n bytes (omega (arith, e)) in
    let fits : end + length (take n bytes) ≤ length log = omega (arith, long, e, h) in
    let same : length log' ≡ length log =
    ap length p ∙ (rw (le-leb (end + length (take n bytes)) (length log) fits) (length-splice log (take n bytes) end fits)) in
    let put : take (end + n) log' ≡ front ++ take n bytes =
    ap (λ (x : List ℕ). take (end + n) x) p
    ∙ ap (λ (i : ℕ). take (end + i) (bytes_put log end (take n bytes))) (sym long)
    ∙ put_behind log end (take n bytes) fits in
    let size : length front ≡ end = length-take-le end log h in
    let whole : length log' ≡ end + k = omega (arith, same, h) in
    let first : take end log ≡ take at log = ap (λ (i : ℕ). take i log) d ∙ take_most at log in (
      omega (arith, same, long, fits),
      put
          ∙ ap (λ (i : ℕ). front ++ take i bytes) e
          ∙ ap (λ (i : ℕ). front ++ take i bytes) (swapped (length bytes) k)
          ∙ ap (λ (x : List ℕ). front ++ x) (take_most k bytes)
          ∙ ap (λ (x : List ℕ). front ++ take k x) (sym (drop_at front bytes end size))
          ∙ ap (λ (x : List ℕ). x ++ take k (drop end (front ++ bytes))) (sym (take_at front bytes end size))
          ∙ sym (take-add end k (front ++ bytes))
          ∙ ap (λ (i : ℕ). take i (front ++ bytes)) (sym whole)
          ∙ ap (λ (x : List ℕ). take (length log') (x ++ bytes)) first,
    )
