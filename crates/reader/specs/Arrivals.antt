-- Bytes that arrive in an input buffer: what the functions of src/arrivals.rt promise each other, and the laws under
-- them. t: the input before. buf: the input buffer. inlog: the log of the input. r, buf', inlog': the same after.
use Rattle.std.specs.Prelude.{◌≡◌, refl, Bool, true, false, ◌&&◌, cond, List, [], ◌++◌, Option, None, Some, Result, Ok, Err, ℕ, ◌+◌, ◌-◌, ◌≤◌, ◌<◌, min, leb, eqb, length, take, drop}
use Rattle.std.proofs.Common.{sym, ap, subst, ◌∙◌, true≢false, append-nil, arith, length-append, length-drop, take_all, take_at, take-add, drop_at, length-take-le, eq-eqb, ne_eqb}
use Rattle.std.proofs.Math.Decide.{dec_le}
use Rattle.std.proofs.lemmas.List.{take-append-le, drop-append-le}
use Rattle.lemmas.specs.Lists.{part, splice}
use Rattle.lemmas.specs.Parts.{length_part, length-splice, part-new}
use Rattle.lemmas.specs.Tests.{◌under◌}
use Rattle.rules.specs.Program.{broken}
use Rattle.logged.specs.Log.{Added, Logged, added_none, count_of, take_most}
use Rattle.logged.specs.declared.ReadFailed.{ReadFailed}
use Rattle.reader.specs.declared.Intake.{Intake}
use Rattle.reader.specs.declared.Stop.{Stop}
use Rattle.reader.specs.declared.Stop.TheVariants.{Ended, Malformed, Unread}
use Rattle.reader.specs.Promises.{between, pending_in, input_limit, most_read, OutcomeMet, FillMet}

-- ---- the places of the pending bytes
-- they lie within the buffer
abbrev pub Within : Intake → List ℕ → Type 0
Within t buf = (t.from ≤ t.to) × (t.to ≤ length buf)

-- places within a buffer of n bytes and a log of k bytes: one past the end is the end
abbrev pub placed_in : ℕ → ℕ → Intake → Intake
placed_in n k t = record {
  from = min t.from (min t.to n);
  to = min t.to n;
  received = t.received;
  logged = min t.logged k;
  stopped = None;
}

-- the same, and whether the input stops
abbrev pub stopped_at : Intake → Option Stop → Intake
stopped_at t o = record {
  from = t.from;
  to = t.to;
  received = t.received;
  logged = t.logged;
  stopped = o;
}

-- ---- room for a read behind them
abbrev pub read_size : ℕ
read_size = 65_536

-- in a buffer of n bytes they stay where they are: there are some, and so much is free behind them
abbrev pub stays : ℕ → Intake → Bool
stays n t = (t.from under t.to) && leb read_size (n - t.to)

-- else they move to the front
abbrev pub at_front : Intake → Intake
at_front t = record {
  from = 0;
  to = t.to - t.from;
  received = t.received;
  logged = t.logged;
  stopped = None;
}

pub record MakeRoomMet (t : Intake) (buf : List ℕ) (r : Intake) (buf' : List ℕ) : Type 0 where
  pub place : r ≡ cond (stays (length buf) t) t (at_front t)
  pub content : buf' ≡ cond (stays (length buf) t) buf (splice buf 0 (pending_in buf t))

-- ---- a read
-- why the input stops after it: it brought nothing, or failed
abbrev pub stop_of : Result ℕ ReadFailed → Option Stop
stop_of (Ok n) = cond (eqb n 0) (Some Ended) None
stop_of (Err e) = Some Unread

-- what it brought is pending too, and has been received
abbrev pub after_read : Intake → Result ℕ ReadFailed → Intake
after_read t got = record {
  from = t.from;
  to = t.to + count_of got;
  received = t.received + count_of got;
  logged = t.logged;
  stopped = stop_of got;
}

-- got: the bytes that it brought
abbrev pub Brought : List ℕ → Option Stop → Type 0
Brought got None = 0 < length got
Brought got (Some Ended) = got ≡ []
Brought got (Some Malformed) = ⊥
Brought got (Some Unread) = got ≡ []

-- they stand behind the pending bytes, and are added to the log
pub record ReadMet (t : Intake) (buf inlog : List ℕ) (r : Intake) (buf' inlog' : List ℕ) : Type 0 where
  pub got : List ℕ
  pub came : Added inlog t.logged got inlog' r.logged
  pub received : r.received ≡ t.received + length got
  pub bound : length got ≤ most_read
  pub arrived : pending_in buf' r ≡ pending_in buf t ++ got
  pub fits : Within r buf'
  pub outcome : Brought got r.stopped

-- ---- laws: a place past the end is the end
pub between-placed : (s : List ℕ) (from to : ℕ)
    → between s (min from (min to (length s))) (min to (length s)) ≡ between s from to
between-placed s from to = go (dec_le from (min to (length s)))
  where
    most : take (min to (length s) - from) (drop from s) ≡ between s from to
    most =
        let e : min to (length s) - from ≡ min (to - from) (length (drop from s)) = omega (arith, length-drop from s) in
        ap (λ (k : ℕ). take k (drop from s)) e ∙ take_most (to - from) (drop from s)

    go : Dec (from ≤ min to (length s))
        → between s (min from (min to (length s))) (min to (length s)) ≡ between s from to
    go (yes l) =
        let e : min from (min to (length s)) ≡ from = omega (arith, l) in
        ap (λ (k : ℕ). between s k (min to (length s))) e ∙ most
    go (no l) =
        let a : min to (length s) - min from (min to (length s)) ≡ 0 = omega arith in
        let b : 0 ≡ min to (length s) - from = omega arith in
        ap (λ (k : ℕ). take k (drop (min from (min to (length s))) s)) a
        ∙ ap (λ (k : ℕ). take k (drop from s)) b
        ∙ most

-- so these are the same bytes and the same log, by places within buffer and log
module _ (t p : Intake) (buf inlog : List ℕ) (e : p ≡ placed_in (length buf) (length inlog) t) where
  pub placed-pending : pending_in buf p ≡ pending_in buf t
  placed-pending = ap (λ (x : Intake). pending_in buf x) e ∙ between-placed buf t.from t.to

  pub placed-log : take p.logged inlog ≡ take t.logged inlog
  placed-log = ap (λ (x : Intake). take x.logged inlog) e ∙ take_most t.logged inlog

  pub placed-received : p.received ≡ t.received
  placed-received = ap Intake.received e

  pub placed-fits : (p.from ≤ p.to) × (p.to ≤ length buf) × (p.logged ≤ length inlog)
  placed-fits = rw e (omega arith, omega arith, omega arith)

-- ---- laws: nothing is read
pub fill_none : (most : ℕ) (t p : Intake) (buf inlog : List ℕ) (o : Option Stop) (r : Intake)
    → p ≡ placed_in (length buf) (length inlog) t
    → r ≡ stopped_at p o
    → OutcomeMet most (pending_in buf p) [] o
    → FillMet most t buf inlog r buf inlog
fill_none most t p buf inlog o r e k s =
    let f = placed-fits t p buf inlog e in
    rw k
    (record {
      got = [];
      came = subst (λ (x : List ℕ). Logged inlog p.logged (x ++ [])) (placed-log t p buf inlog e)
          (added_none inlog p.logged f.2);
      received = omega (arith, placed-received t p buf inlog e);
      bound = omega arith;
      read = λ h. absurd (omega (arith, h));
      arrived = placed-pending t p buf inlog e ∙ sym (append-nil (pending_in buf t));
      order = f.0;
      within = f.1;
      outcome = subst (λ (x : List ℕ). OutcomeMet most x [] o) (placed-pending t p buf inlog e) s;
    })

-- since a whole record is pending
pub fill-whole : (most : ℕ) (t p : Intake) (buf inlog : List ℕ)
    → p ≡ placed_in (length buf) (length inlog) t
    → broken most (pending_in buf p) ≡ false
    → FillMet most t buf inlog p buf inlog
fill-whole most t p buf inlog e b =
    fill_none most t p buf inlog None p e (e ∙ sym (ap (λ (x : Intake). stopped_at x None) e))
    (λ w. absurd (true≢false (sym w ∙ b)))

-- ---- laws: the pending bytes stay, or have moved to the front: the same bytes
front-pending : (buf : List ℕ) (from to : ℕ) → from ≤ to → to ≤ length buf
    → (between (splice buf 0 (between buf from to)) 0 (to - from) ≡ between buf from to)
    × (length (splice buf 0 (between buf from to)) ≡ length buf)
unfolding part
front-pending buf from to h l =
    let n : ℕ = to - from in
    let new : List ℕ = between buf from to in
    let long : length new ≡ n = length_part buf from n (omega (arith, h, l)) in
    let k : n - 0 ≡ length new = omega (arith, long) in
    let fits : 0 + length new ≤ length buf = omega (arith, long, l) in (
      ap (λ (i : ℕ). take i (drop 0 (splice buf 0 new))) k ∙ part-new buf new 0 fits,
      length-splice buf new 0 fits,
    )

pub record RoomMade (t : Intake) (buf : List ℕ) (r : Intake) (buf' : List ℕ) : Type 0 where
  pub pending : pending_in buf' r ≡ pending_in buf t
  pub order : r.from ≤ r.to
  pub within : r.to ≤ length buf'
  pub received : r.received ≡ t.received
  pub logged : r.logged ≡ t.logged

pub room-made : (t : Intake) (buf : List ℕ) (r : Intake) (buf' : List ℕ) → Within t buf → MakeRoomMet t buf r buf'
    → RoomMade t buf r buf'
room-made t buf r buf' w m = go (stays (length buf) t) m.place m.content
  where
    go : (b : Bool) → r ≡ cond b t (at_front t) → buf' ≡ cond b buf (splice buf 0 (pending_in buf t)) → RoomMade t buf r buf'
    go true e f = rw (e, f)
        (record { pending = refl; order = w.0; within = w.1; received = refl; logged = refl })
    go false e f =
        let g = front-pending buf t.from t.to w.0 w.1 in
        rw (e, f)
        (record {
          pending = g.0;
          order = omega arith;
          within = omega (arith, g.1, w.0, w.1);
          received = refl;
          logged = refl;
        })

-- ---- laws: a read
-- what stands in a buffer after a read behind its first `end` bytes: those from place `from` on, and what the read brought
pub between-read : (s read tail : List ℕ) (from end count : ℕ) → from ≤ end → end ≤ length s → count ≤ length read
    → between (take end s ++ (read ++ tail)) from (end + count) ≡ between s from end ++ take count read
between-read s read tail from end count h l c =
    let kept : List ℕ = between s from end in
    let long : length kept ≡ end - from =
    length-take-le (end - from) (drop from s) (omega (arith, h, l, length-drop from s)) in
    let size : end + count - from ≡ (end - from) + count = omega (arith, h) in
    let e : end ≡ from + (end - from) = omega (arith, h) in
    let split : take end s ≡ take from s ++ kept = ap (λ (n : ℕ). take n s) e ∙ take-add from (end - from) s in
    let front : drop from (take end s) ≡ kept =
    ap (λ (x : List ℕ). drop from x) split
    ∙ drop_at (take from s) kept from (length-take-le from s (omega (arith, h, l))) in
    let long' : from ≤ length (take end s) = omega (arith, h, length-take-le end s l) in
    ap (λ (n : ℕ). take n (drop from (take end s ++ (read ++ tail)))) size
    ∙ ap (λ (x : List ℕ). take ((end - from) + count) x)
    (drop-append-le from (take end s) (read ++ tail) long' ∙ ap (λ (x : List ℕ). x ++ (read ++ tail)) front)
    ∙ take-add (end - from) count (kept ++ (read ++ tail))
    ∙ ap (λ (x : List ℕ). x ++ take count (drop (end - from) (kept ++ (read ++ tail))))
    (take_at kept (read ++ tail) (end - from) long)
    ∙ ap (λ (x : List ℕ). kept ++ take count x) (drop_at kept (read ++ tail) (end - from) long)
    ∙ ap (λ (x : List ℕ). kept ++ x) (take-append-le count read tail c)

-- its outcome shows whether it brought something
none_long : (l : List ℕ) → length l ≡ 0 → l ≡ []
none_long l h = sym (take_all 0 l (omega (arith, h)))

pub brought : (got : Result ℕ ReadFailed) (l : List ℕ) → length l ≡ count_of got → Brought l (stop_of got)
brought (Ok n) l h = go (dec_le n 0)
  where
    go : Dec (n ≤ 0) → Brought l (cond (eqb n 0) (Some Ended) None)
    go (yes z) = rw (eq-eqb n 0 (omega arith)) (none_long l (omega (arith, h, z)))
    go (no z) = rw (ne_eqb n 0 (λ e. omega (arith, e))) (omega (arith, h, z))
brought (Err e) l h = none_long l h

-- there was no room for one
pub read_none : (t p : Intake) (buf inlog buf' : List ℕ) (r : Intake) → RoomMade t buf p buf'
    → t.logged ≤ length inlog
    → r ≡ stopped_at p (Some Unread)
    → ReadMet t buf inlog r buf' inlog
read_none t p buf inlog buf' r m l k =
    rw k
    (record {
      got = [];
      came = rw m.logged (added_none inlog t.logged l);
      received = omega (arith, m.received);
      bound = omega arith;
      arrived = m.pending ∙ sym (append-nil (pending_in buf t));
      fits = (m.order, m.within);
      outcome = refl;
    })

-- it went into free bytes, which then are `new`
pub read_some : (t p : Intake) (buf inlog buf' new tail : List ℕ) (got : Result ℕ ReadFailed) (at : ℕ) (r : Intake)
    (inlog' : List ℕ)
    → RoomMade t buf p buf'
    → (count_of got) ≤ length new
    → (count_of got) ≤ most_read
    → Added inlog p.logged (take (count_of got) new) inlog' at
    → r ≡ after_read (record p { logged = at }) got
    → ReadMet t buf inlog r (take p.to buf' ++ (new ++ tail)) inlog'
read_some t p buf inlog buf' new tail got at r inlog' m l b a k =
    let long : length (take (count_of got) new) ≡ (count_of got) = length-take-le (count_of got) new l in
    let front : length (take p.to buf') ≡ p.to = length-take-le p.to buf' m.within in
    rw k
    (record {
      got = take (count_of got) new;
      came = subst (λ (i : ℕ). Added inlog i (take (count_of got) new) inlog' at) m.logged a;
      received = omega (arith, long, m.received);
      bound = omega (arith, long, b);
      arrived = between-read buf' new tail p.from p.to (count_of got) m.order m.within l
          ∙ ap (λ (x : List ℕ). x ++ take (count_of got) new) m.pending;
      fits = (
        omega (arith, m.order),
        omega (arith, front, l, length-append (take p.to buf') (new ++ tail), length-append new tail),
      );
      outcome = brought got (take (count_of got) new) long;
    })

-- a read where no whole record is pending
pub fill-read : (most : ℕ) (t p : Intake) (buf inlog : List ℕ) (r : Intake) (buf' inlog' : List ℕ)
    → p ≡ placed_in (length buf) (length inlog) t
    → broken most (pending_in buf p) ≡ true
    → p.received < input_limit
    → ReadMet p buf inlog r buf' inlog'
    → FillMet most t buf inlog r buf' inlog'
fill-read most t p buf inlog r buf' inlog' e b l m = record {
  got = m.got;
  came = subst (λ (x : List ℕ). Logged inlog' r.logged (x ++ m.got)) (placed-log t p buf inlog e) m.came;
  received = omega (arith, m.received, placed-received t p buf inlog e);
  bound = m.bound;
  read = λ h. (pending, omega (arith, l, placed-received t p buf inlog e));
  arrived = m.arrived ∙ ap (λ (x : List ℕ). x ++ m.got) (placed-pending t p buf inlog e);
  order = m.fits.0;
  within = m.fits.1;
  outcome = stop r.stopped m.outcome;
}
  where
    pending : broken most (pending_in buf t) ≡ true
    pending = subst (λ (x : List ℕ). broken most x ≡ true) (placed-pending t p buf inlog e) b

    stop : (o : Option Stop) → Brought m.got o → OutcomeMet most (pending_in buf t) m.got o
    stop None h = λ x. h
    stop (Some Ended) h = (h, pending)
    stop (Some Malformed) h = absurd h
    stop (Some Unread) h = (h, pending)
