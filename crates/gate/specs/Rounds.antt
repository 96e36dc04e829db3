-- Laws of the rounds: what a round adds, and what the whole run comes to.
use Rattle.std.specs.Prelude.{◌≡◌, refl, Bool, true, false, cond, List, [], ◌++◌, map, Option, None, Some, ℕ, ◌+◌, ◌-◌, ◌≤◌, ◌<◌, eqb, length, take, drop}
use Rattle.std.proofs.Common.{sym, ap, subst, ◌∙◌, true≢false, append_assoc, append-nil, arith, length-append, length-drop, length-take-le, eq-eqb, eqb-true, ne_eqb}
use Rattle.std.proofs.lemmas.Bool.{eqb-false}
use Rattle.std.proofs.lemmas.List.{take-map}
use Rattle.lemmas.specs.Tests.{◌is◌}
use Rattle.rules.specs.Gate.{Call}
use Rattle.rules.specs.Demands.{State, after}
use Rattle.rules.specs.Program.{
  AnsweredCall,
  answered,
  calls_in,
  cut,
  ended,
  formatted,
  last_line,
  left_in,
  lines_from,
  most_frame,
  prints,
  program,
  reply_size,
}
use Rattle.drive.specs.declared.Drive.{Drive}
use Rattle.drive.specs.Chain.{state_of}
use Rattle.logged.specs.Log.{Added, Logged, logged_more, logged_none}
use Rattle.reader.specs.declared.Answered.{Answered}
use Rattle.reader.specs.declared.Stop.{Stop}
use Rattle.reader.specs.declared.Stop.TheVariants.{Ended, Malformed, Unread}
use Rattle.reader.specs.Promises.{answered_length, answered_row, Batch, between, goes_on, NextMet, nothing_read, pending_in}
use Rattle.reader.specs.Made.{answered_both, front-answers, length-answered}
use Rattle.reader.specs.Session.{next_grows, Session, session_next, session_none, session-whole, WholeInput}
use Rattle.gate.specs.Lines.{lines_both, lines_of_lem}
use Rattle.gate.specs.Promises.{ended_as, has_ended, LastLine, lines_of, LoopState, Progress, Reached, RoundMet, RunMet}

-- ---- the start
pub progress_none : (d : Drive) (m buf inlog outlog : List ℕ) → state_of d m ≡ formatted
    → Progress (record { drive = d; intake = nothing_read; calls = 0; logged = 0; written = true }) m buf inlog outlog
unfolding answered lines_from
progress_none d m buf inlog outlog e = record {
  session = session_none most_frame reply_size formatted d m buf inlog e;
  counted = refl;
  went = logged_none outlog;
}

-- ---- one round
module _ (t : LoopState) (m buf x : List ℕ) (answers : List Answered) (inlog outlog : List ℕ) (b : Batch)
    (m' buf' x' : List ℕ) (answers' : List Answered) (inlog' outlog' text : List ℕ) (at : ℕ) (written : Bool)
    (h : Progress t m buf inlog outlog)
    (g : NextMet t.drive t.intake most_frame m buf x answers inlog b m' buf' x' answers' inlog')
    (size : length x ≡ reply_size) (same_in : length inlog' ≡ length inlog)
    (room : 0 < length answers)
    (lines : text ≡ lines_of t.calls (map answered_row (take b.count answers')) (map answered_length (take b.count answers')))
    (went : Added outlog t.logged text outlog' at) (same_out : length outlog' ≡ length outlog) where
  abbrev before : List Call
  before = h.session.calls

  abbrev next : Session most_frame reply_size formatted b.intake b.drive m' buf' inlog'
  next =
      session_next most_frame formatted t.drive t.intake m buf x answers inlog b m' buf' x' answers' inlog' g reply_size h.session size same_in

  text_is : text ≡ lines_from t.calls (answered (after formatted before) g.calls)
  text_is =
      let s : State = state_of t.drive m in
      let l : List AnsweredCall = answered s g.calls in
      lines
      ∙ ap (λ (y : List ℕ). lines_of t.calls y (map answered_length (take b.count answers')))
      (sym (take-map answered_row b.count answers')
      ∙ front-answers AnsweredCall.row s g.calls b.count (map answered_row answers) (map answered_row answers') g.count g.made.row)
      ∙ ap (λ (y : List ℕ). lines_of t.calls (map AnsweredCall.row l) y)
      (sym (take-map answered_length b.count answers')
      ∙ front-answers AnsweredCall.length s g.calls b.count (map answered_length answers) (map answered_length answers') g.count
      g.made.size)
      ∙ lines_of_lem t.calls l
      ∙ ap (λ (y : State). lines_from t.calls (answered y g.calls)) h.session.state

  all_lines : lines_from 0 (answered formatted before) ++ text ≡ lines_from 0 (answered formatted (before ++ g.calls))
  all_lines =
      let n : t.calls ≡ 0 + length (answered formatted before) =
      h.counted ∙ omega (arith, length-answered formatted before) in
      ap (λ (y : List ℕ). lines_from 0 (answered formatted before) ++ y) text_is
      ∙ ap (λ (k : ℕ). lines_from 0 (answered formatted before) ++ lines_from k (answered (after formatted before) g.calls)) n
      ∙ sym (lines_both 0 (answered formatted before) (answered (after formatted before) g.calls))
      ∙ ap (lines_from 0) (sym (answered_both formatted before g.calls))

  abbrev after_round : LoopState
  after_round = record {
    drive = b.drive;
    intake = b.intake;
    calls = t.calls + b.count;
    logged = at;
    written = written;
  }

  pub round_met : RoundMet t after_round m' buf' inlog' outlog'
  round_met = record {
    reached = record {
      progress = record {
        session = next;
        counted = omega (arith, h.counted, g.count, length-append before g.calls);
        went = subst (λ (y : List ℕ). Logged outlog' at y) all_lines
            (logged_more outlog t.logged (lines_from 0 (answered formatted before)) text outlog' at same_out h.went went);
      };
      whole = session-whole most_frame formatted t.drive t.intake m buf x answers inlog b m' buf' x' answers' inlog' g reply_size h.session size same_in;
      order = g.order;
      within = g.within;
    };
    grows = λ e.
        omega (
          arith,
          next_grows most_frame formatted t.drive t.intake m buf x answers inlog b m' buf' x' answers' inlog' g e room,
        );
  }

-- ---- the run
-- what is printed of an input in two parts
printed_then : (calls : List Call) (input pending q : List ℕ)
    → calls_in most_frame reply_size (input ++ q) ≡ calls ++ calls_in most_frame reply_size (pending ++ q)
    → left_in most_frame (input ++ q) ≡ left_in most_frame (pending ++ q)
    → program (input ++ q)
    ≡ lines_from 0 (answered formatted calls) ++ prints (after formatted calls) (length calls) (pending ++ q)
unfolding program prints
printed_then calls input pending q e l =
    let rest : List Call = calls_in most_frame reply_size (pending ++ q) in
    let s : State = after formatted calls in
    let n : length (answered formatted calls) ≡ length calls = length-answered formatted calls in
    let k : 0 + length (calls ++ rest) ≡ length calls + length rest = omega (arith, length-append calls rest) in
    let j : 0 + length (answered formatted calls) ≡ length calls = omega (arith, n) in
    let first : List ℕ = lines_from 0 (answered formatted calls) in
    ap (λ (cs : List Call). lines_from 0 (answered formatted cs) ++ last_line (0 + length cs) (left_in most_frame (input ++ q))) e
    ∙ ap (λ (p : List ℕ). lines_from 0 (answered formatted (calls ++ rest)) ++ last_line (0 + length (calls ++ rest)) p) l
    ∙ ap (λ (i : ℕ). lines_from 0 (answered formatted (calls ++ rest)) ++ last_line i (left_in most_frame (pending ++ q))) k
    ∙ ap (λ (a : List AnsweredCall). lines_from 0 a ++ last_line (length calls + length rest) (left_in most_frame (pending ++ q)))
    (answered_both formatted calls rest)
    ∙ ap (λ (a : List ℕ). a ++ last_line (length calls + length rest) (left_in most_frame (pending ++ q)))
    (lines_both 0 (answered formatted calls) (answered s rest)
    ∙ ap (λ (i : ℕ). first ++ lines_from i (answered s rest)) j)
    ∙ append_assoc first (lines_from (length calls) (answered s rest))
    (last_line (length calls + length rest) (left_in most_frame (pending ++ q)))

-- and of all of it, where the calls are known and what is left behind them
printed_all : (calls : List Call) (input left : List ℕ)
    → calls_in most_frame reply_size input ≡ calls
    → left_in most_frame input ≡ left
    → program input ≡ lines_from 0 (answered formatted calls) ++ last_line (length calls) left
unfolding program prints
printed_all calls input left e l =
    let k : 0 + length calls ≡ length calls = omega arith in
    ap (λ (cs : List Call). lines_from 0 (answered formatted cs) ++ last_line (0 + length cs) (left_in most_frame input)) e
    ∙ ap (λ (p : List ℕ). lines_from 0 (answered formatted calls) ++ last_line (0 + length calls) p) l
    ∙ ap (λ (i : ℕ). lines_from 0 (answered formatted calls) ++ last_line i left) k

-- the last line by the places of what is pending
last_by_place : (buf : List ℕ) (from to n : ℕ) → from ≤ to → to ≤ length buf
    → last_line n (between buf from to) ≡ cond (eqb from to) (ended n) (cut n)
last_by_place buf from to n h l =
    let long : length (between buf from to) ≡ to - from =
    length-take-le (to - from) (drop from buf) (omega (arith, h, l, length-drop from buf)) in
    go (eqb from to) refl long
  where
    go : (b : Bool) → eqb from to ≡ b → length (between buf from to) ≡ to - from
        → last_line n (between buf from to) ≡ cond b (ended n) (cut n)
    go true e long =
        let z : (length (between buf from to) is 0) ≡ true =
        eq-eqb (length (between buf from to)) 0 (omega (arith, long, eqb-true from to e)) in
        ap (λ (b : Bool). cond b (ended n) (cut n)) z
    go false e long =
        let z : (length (between buf from to) is 0) ≡ false =
        ne_eqb (length (between buf from to)) 0 (λ k. eqb-false from to e (omega (arith, long, k, h))) in
        ap (λ (b : Bool). cond b (ended n) (cut n)) z

module _ (t : LoopState) (m buf inlog outlog outlog' : List ℕ) (at : ℕ) (h : Reached t m buf inlog outlog) where
  abbrev calls : List Call
  calls = h.progress.session.calls

  abbrev lines : List ℕ
  lines = lines_from 0 (answered formatted calls)

  reached_by_lem : (q : List ℕ)
      → program (h.progress.session.input ++ q)
      ≡ lines ++ prints (state_of t.drive m) t.calls (drop h.progress.session.taken h.progress.session.input ++ q)
  reached_by_lem q =
      printed_then calls h.progress.session.input (pending_in buf t.intake) q (h.progress.session.those q)
      (h.progress.session.left q)
      ∙ ap (λ (s : State). lines ++ prints s (length calls) (pending_in buf t.intake ++ q)) (sym h.progress.session.state)
      ∙ ap (λ (n : ℕ). lines ++ prints (state_of t.drive m) n (pending_in buf t.intake ++ q)) (sym h.progress.counted)
      ∙ ap (λ (p : List ℕ). lines ++ prints (state_of t.drive m) t.calls (p ++ q)) h.progress.session.rest

  -- the output could not be written
  pub run-unwritten : t.written ≡ false → RunMet t m inlog outlog
  run-unwritten w = record {
    input = h.progress.session.input;
    came = h.progress.session.came;
    lines = lines;
    last = [];
    went = subst (λ (y : List ℕ). Logged outlog t.logged y) (sym (append-nil lines)) h.progress.went;
    taken = h.progress.session.taken;
    within = h.progress.session.within;
    reached = reached_by_lem;
    ending = λ e. absurd (true≢false (sym e ∙ w));
    unwritten = λ e. refl;
  }

  -- the last line
  abbrev last : List ℕ
  last = cond (has_ended t.intake) (ended t.calls) (cut t.calls)

  -- whether it is `end`, by the outcome
  ended_by : t.intake.stopped ≡ Some Ended → has_ended t.intake ≡ eqb t.intake.from t.intake.to
  ended_by e = ap (λ (o : Option Stop). ended_as o t.intake.from t.intake.to) e

  cut_by : (o : Option Stop) → t.intake.stopped ≡ o → ended_as o t.intake.from t.intake.to ≡ false → has_ended t.intake ≡ false
  cut_by o e f = ap (λ (o : Option Stop). ended_as o t.intake.from t.intake.to) e ∙ f

  ending : (o : Option Stop) → t.intake.stopped ≡ o → goes_on o ≡ false
      → LastLine o t.calls h.progress.session.input lines last
  ending None e s = absurd (true≢false s)
  ending (Some Ended) e s =
      let w : WholeInput most_frame reply_size (Some Ended) h.progress.session.input calls (pending_in buf t.intake) =
      subst (λ (o : Option Stop). WholeInput most_frame reply_size o h.progress.session.input calls (pending_in buf t.intake)) e
      h.whole in
      printed_all calls h.progress.session.input (pending_in buf t.intake) w.0 w.1
      ∙ ap (λ (n : ℕ). lines ++ last_line n (pending_in buf t.intake)) (sym h.progress.counted)
      ∙ ap (λ (l : List ℕ). lines ++ l)
      (last_by_place buf t.intake.from t.intake.to t.calls h.order h.within
      ∙ ap (λ (b : Bool). cond b (ended t.calls) (cut t.calls)) (sym (ended_by e)))
  ending (Some Malformed) e s = λ q.
      let w : WholeInput most_frame reply_size (Some Malformed) h.progress.session.input calls (pending_in buf t.intake) =
      subst (λ (o : Option Stop). WholeInput most_frame reply_size o h.progress.session.input calls (pending_in buf t.intake)) e
      h.whole in
      let left : List ℕ = pending_in buf t.intake ++ q in
      let some : (length left is 0) ≡ false =
      ne_eqb (length left) 0 (λ z. absurd (omega (arith, w.0, z, length-append (pending_in buf t.intake) q))) in
      printed_all calls (h.progress.session.input ++ q) left (w.1 q).0 (w.1 q).1
      ∙ ap (λ (n : ℕ). lines ++ last_line n left) (sym h.progress.counted)
      ∙ ap (λ (b : Bool). lines ++ cond b (ended t.calls) (cut t.calls)) (some ∙ sym (cut_by (Some Malformed) e refl))
  ending (Some Unread) e s = ap (λ (b : Bool). cond b (ended t.calls) (cut t.calls)) (cut_by (Some Unread) e refl)

  pub run-finished : goes_on t.intake.stopped ≡ false
      → Added outlog t.logged last outlog' at
      → length outlog' ≡ length outlog
      → RunMet (record { drive = t.drive; intake = t.intake; calls = t.calls; logged = at; written = true }) m inlog outlog'
  run-finished s a same = record {
    input = h.progress.session.input;
    came = h.progress.session.came;
    lines = lines;
    last = last;
    went = logged_more outlog t.logged lines last outlog' at same h.progress.went a;
    taken = h.progress.session.taken;
    within = h.progress.session.within;
    reached = reached_by_lem;
    ending = λ w. ending t.intake.stopped refl s;
    unwritten = λ w. absurd (true≢false w);
  }
