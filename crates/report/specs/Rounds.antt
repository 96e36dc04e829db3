-- Laws of the rounds: what a round adds to the counts, and what the whole run comes to.
use Rattle.std.specs.Prelude.{◌≡◌, refl, false, List, [], ◌++◌, map, Option, None, Some, ℕ, ◌+◌, ◌<◌, length, take}
use Rattle.std.proofs.Common.{sym, ap, subst, ◌∙◌, true≢false, arith, length-append}
use Rattle.std.proofs.lemmas.List.{take-map}
use Rattle.rules.specs.Gate.{Call}
use Rattle.rules.specs.Demands.{State}
use Rattle.rules.specs.Program.{AnsweredCall, answered, calls_in, formatted, most_frame, reply_size}
use Rattle.rules.specs.Report.{counters, count_lines, counts_from, counts_in, report, report_of, total}
use Rattle.rules.proofs.Counts.{all_countable}
use Rattle.drive.specs.declared.Drive.{Drive}
use Rattle.drive.specs.Chain.{state_of}
use Rattle.logged.specs.Log.{Added}
use Rattle.reader.specs.declared.Answered.{Answered}
use Rattle.reader.specs.declared.Stop.{Stop}
use Rattle.reader.specs.declared.Stop.TheVariants.{Ended, Malformed, Unread}
use Rattle.reader.specs.Promises.{answered_partition, answered_row, Batch, goes_on, NextMet, nothing_read, partition_of, pending_in}
use Rattle.reader.specs.Made.{answered_both, front-answers, length-answered}
use Rattle.reader.specs.Session.{calls_fit, next_grows, session_next, session_none, session-whole, WholeInput}
use Rattle.tally.specs.Laws.{counters_none}
use Rattle.report.specs.Counting.{counted_both}
use Rattle.report.specs.Promises.{counted_all, LoopState, no_counts, Progress, Reports, RoundMet, RunMet, ServeMet}

-- ---- the start
none_counted : no_counts ≡ counters (answered formatted [])
unfolding answered
none_counted = sym counters_none

pub progress_none : (d : Drive) (m buf ns inlog : List ℕ) → state_of d m ≡ formatted → ns ≡ no_counts
    → Progress (record { drive = d; intake = nothing_read; calls = 0 }) m buf ns inlog
progress_none d m buf ns inlog e z = record {
  session = session_none most_frame reply_size formatted d m buf inlog e;
  counted = refl;
  counts = z ∙ none_counted;
}

-- ---- one round
module _ (t : LoopState) (m buf x : List ℕ) (answers : List Answered) (ns inlog : List ℕ) (b : Batch)
    (m' buf' x' : List ℕ) (answers' : List Answered) (ns' inlog' : List ℕ)
    (h : Progress t m buf ns inlog)
    (g : NextMet t.drive t.intake most_frame m buf x answers inlog b m' buf' x' answers' inlog')
    (size : length x ≡ reply_size) (same : length inlog' ≡ length inlog)
    (room : 0 < length answers)
    (all : ns' ≡ counted_all ns (map answered_row (take b.count answers')) (map answered_partition (take b.count answers'))) where
  abbrev before : List Call
  before = h.session.calls

  abbrev so_far : List AnsweredCall
  so_far = answered formatted before

  abbrev new : List AnsweredCall
  new = answered (state_of t.drive m) g.calls

  added : so_far ++ new ≡ answered formatted (before ++ g.calls)
  added =
      ap (λ (s : State). so_far ++ answered s g.calls) h.session.state
      ∙ sym (answered_both formatted before g.calls)

  counts_are : ns' ≡ counters (answered formatted (before ++ g.calls))
  counts_are =
      let s : State = state_of t.drive m in
      all
      ∙ ap (λ (y : List ℕ). counted_all ns y (map answered_partition (take b.count answers')))
      (sym (take-map answered_row b.count answers')
      ∙ front-answers AnsweredCall.row s g.calls b.count (map answered_row answers) (map answered_row answers') g.count g.made.row)
      ∙ ap (λ (y : List ℕ). counted_all ns (map AnsweredCall.row new) y)
      (sym (take-map answered_partition b.count answers')
      ∙ front-answers partition_of s g.calls b.count (map answered_partition answers) (map answered_partition answers') g.count
      g.made.place)
      ∙ ap (λ (y : List ℕ). counted_all y (map AnsweredCall.row new) (map partition_of new)) h.counts
      ∙ counted_both so_far new (all_countable s g.calls)
      (omega (
        arith,
        length-answered formatted before,
        length-answered s g.calls,
        g.count,
        calls_fit most_frame formatted t.drive t.intake m buf x answers inlog b m' buf' x' answers' inlog' g reply_size h.session size same,
      ))
      ∙ ap counters added

  pub round_met : RoundMet t (record { drive = b.drive; intake = b.intake; calls = t.calls + b.count }) m' buf' ns' inlog'
  round_met = record {
    reached = record {
      progress = record {
        session = session_next most_frame formatted t.drive t.intake m buf x answers inlog b m' buf' x'
            answers' inlog' g reply_size h.session size same;
        counted = omega (arith, h.counted, g.count, length-append before g.calls);
        counts = counts_are;
      };
      whole = session-whole most_frame formatted t.drive t.intake m buf x answers inlog b m' buf' x' answers' inlog' g reply_size h.session size same;
    };
    grows = λ e.
        omega (
          arith,
          next_grows most_frame formatted t.drive t.intake m buf x answers inlog b m' buf' x' answers' inlog' g e room,
        );
  }

-- ---- the run
-- the report of an input whose calls are known
reported : (calls : List Call) (input : List ℕ) → calls_in most_frame reply_size input ≡ calls
    → report input ≡ report_of (answered formatted calls)
unfolding report
reported calls input e = ap (λ (cs : List Call). report_of (answered formatted cs)) e

-- the text is the report of the calls
text_is : (calls : List Call) (n : ℕ) (ns : List ℕ) → n ≡ length calls → ns ≡ counters (answered formatted calls)
    → count_lines (counts_from 0 ns) ++ total n ≡ report_of (answered formatted calls)
unfolding report_of counts_in
text_is calls n ns e c =
    ap (λ (y : List ℕ). count_lines (counts_from 0 y) ++ total n) c
    ∙ ap (λ (k : ℕ). count_lines (counts_from 0 (counters (answered formatted calls))) ++ total k)
    (e ∙ sym (length-answered formatted calls))

ending : (o : Option Stop) (input : List ℕ) (calls : List Call) (pending : List ℕ) → goes_on o ≡ false
    → WholeInput most_frame reply_size o input calls pending → Reports o input (report_of (answered formatted calls))
ending None input calls pending s w = absurd (true≢false s)
ending (Some Ended) input calls pending s w = reported calls input w.0
ending (Some Malformed) input calls pending s w = λ q. reported calls (input ++ q) (w.1 q).0
ending (Some Unread) input calls pending s w = tt

pub run_met : (t : LoopState) (m buf ns inlog outlog outlog' : List ℕ) (at : ℕ) → ServeMet t m buf ns inlog
    → Added outlog 0 (count_lines (counts_from 0 ns) ++ total t.calls) outlog' at
    → RunMet (record { drive = t.drive; intake = t.intake; calls = t.calls; logged = at }) m inlog outlog'
run_met t m buf ns inlog outlog outlog' at h a =
    let p = h.reached.progress in
    let s = p.session in
    record {
      input = s.input;
      came = s.came;
      calls = s.calls;
      taken = s.taken;
      within = s.within;
      those = λ q. s.those q ∙ ap (λ (p : List ℕ). s.calls ++ calls_in most_frame reply_size (p ++ q)) s.rest;
      state = s.state;
      number = p.counted;
      text = count_lines (counts_from 0 ns) ++ total t.calls;
      went = a;
      counts = text_is s.calls t.calls ns p.counted p.counts;
      ending = subst (Reports t.intake.stopped s.input) (sym (text_is s.calls t.calls ns p.counted p.counts))
          (ending t.intake.stopped s.input s.calls (pending_in buf t.intake) h.stopped h.reached.whole);
    }
