-- A session: all rounds since the first. The bytes that came, the calls that they were, and the drive after them, however
-- the reads cut the input. most: the longest frame. space: the reply space's size. s₀: drive and medium at the start.
use Rattle.std.specs.Prelude.{◌≡◌, refl, ◌⊎◌, true, false, Option, None, Some, ℕ, suc, ◌+◌, ◌-◌, ◌^◌, ◌≤◌, ◌<◌, length, drop}
use Rattle.std.proofs.Common.{sym, ap, subst, ◌∙◌, inl, inr, arith, length-append, length-drop, drop-drop}
use mathlib.Core.List.{List, [], ◌∷◌, ◌++◌, append_assoc, append-nil}
use Rattle.std.proofs.lemmas.List.{drop-append-le}
use Rattle.lemmas.specs.Tests.{bool_cases}
use Rattle.rules.specs.Gate.{Call}
use Rattle.rules.specs.Demands.{State, after}
use Rattle.rules.specs.Program.{after_record, broken, calls_in, calls_of, left_in, left_of}
use Rattle.record.specs.Arrival.{malformed}
use Rattle.record.specs.Parsing.{
  calls-ended,
  calls_first,
  calls-malformed,
  calls_most,
  calls-split,
  calls-within,
  left_behind,
  malformed_some,
  whole-stays,
}
use Rattle.drive.specs.declared.Drive.{Drive}
use Rattle.drive.specs.Chain.{state_of}
use Rattle.logged.specs.Log.{Logged, logged_more, logged_none}
use Rattle.reader.specs.declared.Answered.{Answered}
use Rattle.reader.specs.declared.Intake.{Intake}
use Rattle.reader.specs.declared.Stop.{Stop}
use Rattle.reader.specs.declared.Stop.TheVariants.{Ended, Malformed, Unread}
use Rattle.reader.specs.Promises.{
  Batch,
  goes_on,
  input_limit,
  most_read,
  NextMet,
  nothing_read,
  pending_in,
  room_in,
  OutcomeMet,
}
use Rattle.reader.specs.Made.{after_both}

pub record Session (most space : ℕ) (s₀ : State) (t : Intake) (d : Drive) (m buf inlog : List ℕ) : Type 0 where
  -- the bytes that the reads brought, in order
  pub input : List ℕ
  pub came : Logged inlog t.logged input
  pub received : t.received ≡ length input
  pub bound : t.received ≤ input_limit + most_read
  -- the calls made are the first of the input, whatever comes later; what is pending is behind them
  pub calls : List Call
  pub those : (q : List ℕ) → calls_in most space (input ++ q) ≡ calls ++ calls_in most space (pending_in buf t ++ q)
  pub left : (q : List ℕ) → left_in most (input ++ q) ≡ left_in most (pending_in buf t ++ q)
  pub state : state_of d m ≡ after s₀ calls
  -- it is the input's last bytes
  pub taken : ℕ
  pub within : taken ≤ length input
  pub rest : pending_in buf t ≡ drop taken input
  -- each call took a byte at least
  pub fewer : length calls + length (pending_in buf t) ≤ length input

-- ---- the whole input, where the session knows it: the calls made are all of it, and `pending` is left
abbrev pub WholeInput : ℕ → ℕ → Option Stop → List ℕ → List Call → List ℕ → Type 0
WholeInput most space None input calls pending = Unit {0}
WholeInput most space (Some Ended) input calls pending = (calls_in most space input ≡ calls) × (left_in most input ≡ pending)
-- it goes on with what is no record: whatever bytes q were never read
WholeInput most space (Some Malformed) input calls pending =
    (0 < length pending)
    × ((q : List ℕ) → (calls_in most space (input ++ q) ≡ calls) × (left_in most (input ++ q) ≡ pending ++ q))
-- it could not be read on
WholeInput most space (Some Unread) input calls pending = Unit {0}

-- ---- the start
pub none_after : (s : State) → s ≡ after s []
unfolding after
none_after s = refl

abbrev pub session_none : (most space : ℕ) (s₀ : State) (d : Drive) (m buf inlog : List ℕ) → state_of d m ≡ s₀
    → Session most space s₀ nothing_read d m buf inlog
session_none most space s₀ d m buf inlog e = record {
  input = [];
  came = logged_none inlog;
  received = refl;
  bound = omega arith;
  calls = [];
  those = λ q. refl;
  left = λ q. refl;
  state = e ∙ none_after s₀;
  taken = 0;
  within = omega arith;
  rest = refl;
  fewer = omega arith;
}

module _ (most : ℕ) (s₀ : State) (d : Drive) (t : Intake) (m buf x : List ℕ) (answers : List Answered) (inlog : List ℕ) (r : Batch)
    (m' buf' x' : List ℕ) (answers' : List Answered) (inlog' : List ℕ)
    (g : NextMet d t most m buf x answers inlog r m' buf' x' answers' inlog') where
  abbrev arrived : List ℕ
  arrived = pending_in buf t ++ g.got

  abbrev room : ℕ
  room = room_in r.intake.stopped answers

  -- ---- one round more
  module _ (space : ℕ) (h : Session most space s₀ t d m buf inlog) (size : length x ≡ space)
      (same : length inlog' ≡ length inlog) where
    pub split : (q : List ℕ)
        → (calls_in most space (arrived ++ q) ≡ g.calls ++ calls_in most space (pending_in buf' r.intake ++ q))
        × (left_in most (arrived ++ q) ≡ left_in most (pending_in buf' r.intake ++ q))
    split q =
        let e : calls_of most space room arrived ≡ g.calls =
        ap (λ (n : ℕ). calls_of most n room arrived) (sym size) ∙ sym g.those in
        let s = calls-split most space room arrived q in
        let l : left_of most room arrived ≡ pending_in buf' r.intake = sym g.left in (
          s.0
              ∙ ap (λ (cs : List Call). cs ++ calls_in most space (left_of most room arrived ++ q)) e
              ∙ ap (λ (p : List ℕ). g.calls ++ calls_in most space (p ++ q)) l,
          s.1 ∙ ap (λ (p : List ℕ). left_in most (p ++ q)) l,
        )

    pub fits : length g.calls + length (pending_in buf' r.intake) ≤ length arrived
    fits =
        omega (
          arith,
          calls-within most (length x) room arrived,
          ap length g.those,
          ap length g.left,
        )

    -- the bytes of these calls
    abbrev pub more : ℕ
    more = length arrived - length (left_of most room arrived)

    pub more_within : h.taken + more ≤ length (h.input ++ g.got)
    more_within =
        omega (
          arith,
          h.within,
          ap length h.rest,
          length-drop h.taken h.input,
          length-append (pending_in buf t) g.got,
          length-append h.input g.got,
        )

    pub behind : pending_in buf' r.intake ≡ drop (h.taken + more) (h.input ++ g.got)
    behind =
        g.left
        ∙ (left_behind most room arrived).1
        ∙ ap (λ (p : List ℕ). drop more (p ++ g.got)) h.rest
        ∙ ap (drop more) (sym (drop-append-le h.taken h.input g.got h.within))
        ∙ drop-drop more h.taken (h.input ++ g.got)

    pub limited : r.intake.received ≤ input_limit + most_read
    limited = go g.got refl
      where
        go : (got : List ℕ) → g.got ≡ got → r.intake.received ≤ input_limit + most_read
        go [] e = omega (arith, g.received, ap length e, h.bound)
        go (y ∷ ys) e =
            let some : 0 < length g.got = omega (arith, ap length e) in
            omega (arith, g.received, g.bound, (g.read some).1)

    abbrev pub session_next : Session most space s₀ r.intake r.drive m' buf' inlog'
    session_next = record {
      input = h.input ++ g.got;
      came = logged_more inlog t.logged h.input g.got inlog' r.intake.logged same h.came g.came;
      received = g.received ∙ omega (arith, h.received, length-append h.input g.got);
      bound = limited;
      calls = h.calls ++ g.calls;
      those = λ q.
          ap (calls_in most space) (append_assoc h.input g.got q)
          ∙ h.those (g.got ++ q)
          ∙ ap (λ (p : List ℕ). h.calls ++ calls_in most space p) (sym (append_assoc (pending_in buf t) g.got q))
          ∙ ap (λ (cs : List Call). h.calls ++ cs) (split q).0
          ∙ sym (append_assoc h.calls g.calls (calls_in most space (pending_in buf' r.intake ++ q)));
      left = λ q.
          ap (left_in most) (append_assoc h.input g.got q)
          ∙ h.left (g.got ++ q)
          ∙ ap (left_in most) (sym (append_assoc (pending_in buf t) g.got q))
          ∙ (split q).1;
      state = g.made.state
          ∙ ap (λ (s : State). after s g.calls) h.state
          ∙ sym (after_both s₀ h.calls g.calls);
      taken = h.taken + more;
      within = more_within;
      rest = behind;
      fewer = omega (
        arith,
        fits,
        h.fewer,
        length-append h.calls g.calls,
        length-append h.input g.got,
        length-append (pending_in buf t) g.got,
      );
    }

    -- the calls can be counted in 64 bits, as there are no more than bytes that came
    pub calls_fit : length h.calls + r.count + 1 < 2 ^ 64
    calls_fit =
        omega (
          arith,
          g.count,
          length-append h.calls g.calls,
          session_next.fewer,
          session_next.received,
          session_next.bound,
        )

    -- where the input stops, the pending bytes stay
    stays : goes_on r.intake.stopped ≡ false → g.got ≡ [] → pending_in buf' r.intake ≡ pending_in buf t
    unfolding left_of
    stays o e = g.left ∙ (rw o (ap (λ (p : List ℕ). pending_in buf t ++ p) e ∙ append-nil (pending_in buf t)))

    -- what it knows of the whole input
    stopped : (o : Option Stop) → r.intake.stopped ≡ o
        → WholeInput most space o session_next.input session_next.calls (pending_in buf' r.intake)
    stopped None e = tt
    stopped (Some Ended) e =
        let st : OutcomeMet most (pending_in buf t) g.got (Some Ended) =
        subst (λ (o : Option Stop). OutcomeMet most (pending_in buf t) g.got o) e g.outcome in
        let p : List ℕ = pending_in buf' r.intake in
        let same-p : p ≡ pending_in buf t = stays (ap goes_on e) st.0 in
        let none = calls-ended most space p (ap (broken most) same-p ∙ st.1) in (
          ap (calls_in most space) (sym (append-nil session_next.input))
              ∙ session_next.those []
              ∙ ap (λ (l : List ℕ). session_next.calls ++ calls_in most space l) (append-nil p)
              ∙ ap (λ (cs : List Call). session_next.calls ++ cs) none.0
              ∙ append-nil session_next.calls,
          ap (left_in most) (sym (append-nil session_next.input))
              ∙ session_next.left []
              ∙ ap (left_in most) (append-nil p)
              ∙ none.1,
        )
    stopped (Some Malformed) e =
        let st : OutcomeMet most (pending_in buf t) g.got (Some Malformed) =
        subst (λ (o : Option Stop). OutcomeMet most (pending_in buf t) g.got o) e g.outcome in
        let p : List ℕ = pending_in buf' r.intake in
        let bad : malformed most p ≡ true = ap (malformed most) (stays (ap goes_on e) st.0) ∙ st.1 in (
          malformed_some most p bad,
          λ q.
              let none = calls-malformed most space p q bad in (
                session_next.those q
                    ∙ ap (λ (cs : List Call). session_next.calls ++ cs) none.0
                    ∙ append-nil session_next.calls,
                session_next.left q ∙ none.1,
              ),
        )
    stopped (Some Unread) e = tt

    pub session-whole : WholeInput most space r.intake.stopped session_next.input session_next.calls
        (pending_in buf' r.intake)
    session-whole = stopped r.intake.stopped refl

  -- ---- there are no more calls in it than there is room for
  pub next_fits : r.count ≤ length answers
  next_fits =
      omega (arith, g.count, ap length g.those, calls_most most (length x) room arrived, within-room r.intake.stopped)
    where
      within-room : (o : Option Stop) → room_in o answers ≤ length answers
      within-room None = omega arith
      within-room (Some stop) = omega arith

  -- ---- while the input goes on, bytes have come or a call was made, where there is room for an answer
  pub next_grows : r.intake.stopped ≡ None → 0 < length answers
      → t.received < r.intake.received + r.count
  next_grows e some = go (bool_cases (broken most (pending_in buf t)))
    where
      go : (broken most (pending_in buf t) ≡ true) ⊎ (broken most (pending_in buf t) ≡ false)
          → t.received < r.intake.received + r.count
      go (inl b) =
          let st : OutcomeMet most (pending_in buf t) g.got None =
          subst (λ (o : Option Stop). OutcomeMet most (pending_in buf t) g.got o) e g.outcome in
          omega (arith, g.received, st b)
      go (inr b) =
          let n : ℕ = length answers - 1 in
          let full : room ≡ suc n = ap (λ (o : Option Stop). room_in o answers) e ∙ omega (arith, some) in
          let f = calls_first most (length x) n arrived (whole-stays most (pending_in buf t) g.got b) in
          let one : r.count ≡ suc (length (calls_of most (length x) n (after_record arrived))) =
          g.count
          ∙ ap length (g.those ∙ ap (λ (k : ℕ). calls_of most (length x) k arrived) full ∙ f.0) in
          omega (arith, g.received, one)
