-- Laws of one round: from what filling the buffer and answering did to what the round did.
use Rattle.std.specs.Prelude.{◌≡◌, refl, false, List, [], Option, None, ℕ, ◌+◌, ◌-◌, ◌≤◌, length, take, drop}
use Rattle.std.proofs.Common.{sym, ap, subst, ◌∙◌, arith, length-drop, length-take, drop_at, drop-drop, length-take-le, take-add}
use Rattle.rules.specs.Program.{calls_of, left_of}
use Rattle.drive.specs.declared.Drive.{Drive}
use Rattle.reader.specs.declared.Answered.{Answered}
use Rattle.reader.specs.declared.Intake.{Intake}
use Rattle.reader.specs.declared.Stop.{Stop}
use Rattle.reader.specs.Promises.{AnswerMet, Answers, between, FillMet, goes_on, NextMet, pending_in, OutcomeMet}
use Rattle.reader.specs.Made.{made_none}

-- a part of a buffer without its first bytes
pub part_rest : (s : List ℕ) (from to taken : ℕ) → from + taken ≤ to → to ≤ length s
    → drop taken (between s from to) ≡ between s (from + taken) to
part_rest s from to taken h l =
    let d : List ℕ = drop from s in
    let k : ℕ = to - (from + taken) in
    let e : to - from ≡ taken + k = omega (arith, h) in
    let long : taken ≤ length d = omega (arith, h, l, length-drop from s) in
    ap (λ (n : ℕ). drop taken (take n d)) e
    ∙ ap (λ (x : List ℕ). drop taken x) (take-add taken k d)
    ∙ drop_at (take taken d) (take k (drop taken d)) taken (length-take-le taken d long)
    ∙ ap (λ (x : List ℕ). take k x) (drop-drop taken from s)

-- the input stops: no call is made
pub next_stopped : (d : Drive) (t : Intake) (most : ℕ) (m buf x : List ℕ) (answers : List Answered) (inlog : List ℕ) (f : Intake)
    (buf' inlog' : List ℕ)
    → FillMet most t buf inlog f buf' inlog'
    → goes_on f.stopped ≡ false
    → NextMet d t most m buf x answers inlog (record { drive = d; intake = f; count = 0 }) m buf' x answers inlog'
unfolding calls_of left_of
next_stopped d t most m buf x answers inlog f buf' inlog' h o = record {
  got = h.got;
  came = h.came;
  received = h.received;
  bound = h.bound;
  read = h.read;
  outcome = h.outcome;
  order = h.order;
  within = h.within;
  calls = [];
  those = rw o refl;
  count = refl;
  left = h.arrived ∙ (rw o refl);
  made = made_none d m x answers;
}

-- what is answered lies within what is pending
pub answer-fits : (d : Drive) (most : ℕ) (m buf x : List ℕ) (answers : List Answered) (from to : ℕ) (a : Answers)
    (m' x' : List ℕ) (answers' : List Answered)
    → from ≤ to
    → AnswerMet d most m (between buf from to) x answers a m' x' answers'
    → from + a.taken ≤ to
answer-fits d most m buf x answers from to a m' x' answers' h g =
    omega (arith, h, g.within, length-take (to - from) (drop from buf))

-- it goes on: the calls of the records that are whole
pub next_answered : (d : Drive) (t : Intake) (most : ℕ) (m buf x : List ℕ) (answers : List Answered) (inlog : List ℕ) (f : Intake)
    (buf' inlog' : List ℕ) (a : Answers) (m' x' : List ℕ) (answers' : List Answered)
    → FillMet most t buf inlog f buf' inlog'
    → f.stopped ≡ None
    → AnswerMet d most m (pending_in buf' f) x answers a m' x' answers'
    → NextMet d t most m buf x answers inlog (record {
      drive = a.drive;
      intake = record {
        from = f.from + a.taken;
        to = f.to;
        received = f.received;
        logged = f.logged;
        stopped = None;
      };
      count = a.count;
    }) m' buf' x' answers' inlog'
next_answered d t most m buf x answers inlog f buf' inlog' a m' x' answers' h o g =
    let room : ℕ = length answers in
    let fits : f.from + a.taken ≤ f.to =
    answer-fits d most m buf' x answers f.from f.to a m' x' answers' h.order g in
    record {
      got = h.got;
      came = h.came;
      received = h.received;
      bound = h.bound;
      read = h.read;
      outcome = subst (λ (y : Option Stop). OutcomeMet most (pending_in buf t) h.got y) o h.outcome;
      order = fits;
      within = h.within;
      calls = calls_of most (length x) room (pending_in buf' f);
      those = ap (λ (l : List ℕ). calls_of most (length x) room l) h.arrived;
      count = g.count;
      left = sym (part_rest buf' f.from f.to a.taken fits h.within)
          ∙ g.left
          ∙ ap (λ (l : List ℕ). left_of most room l) h.arrived;
      made = g.made;
    }
