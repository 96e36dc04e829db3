-- Laws: a list of calls is made one call after the other, and the records of an input are taken one after the other.
-- s: drive and medium. x: a reply space. cs: the calls so far.
use Rattle.std.specs.Prelude.{◌≡◌, refl, true, false, List, [], ◌∷◌, ◌++◌, map, ℕ, suc, ◌+◌, ◌-◌, ◌≤◌, ◌<◌, length, take, drop, set}
use Rattle.std.proofs.Common.{sym, ap, subst, ◌∙◌, append_assoc, append-nil, arith, length-append, length-drop, drop-drop, take_at}
use Rattle.std.proofs.lemmas.List.{length-map, map-set}
use Rattle.lemmas.specs.ListLaws.{map-append}
use Rattle.lemmas.specs.Fronts.{front_store, with_front}
use Rattle.rules.specs.Frame.{fields}
use Rattle.rules.specs.Gate.{Call, gate}
use Rattle.rules.specs.Demands.{State, after, answer, step}
use Rattle.rules.specs.Program.{after_record, AnsweredCall, answered, broken, call_in, calls_of, frame_in, frame_length, left_of, record_head}
use Rattle.record.specs.Parsing.{calls_first, calls_none}
use Rattle.drive.specs.declared.Drive.{Drive}
use Rattle.drive.specs.Chain.{state_of}
use Rattle.drive.specs.Lent.{answer_with}
use Rattle.drive.specs.Met.{GateMet, call_of}
use Rattle.reader.specs.declared.Answered.{Answered}
use Rattle.reader.specs.Answered.{AnsweredMet, answered_met}
use Rattle.reader.specs.Promises.{
  answered_length,
  answered_partition,
  answered_row,
  AnswerMet,
  Answers,
  CallsMade,
  partition_of,
  space_after,
  WholeMet,
}

-- ---- two lists of calls, one after the other
pub after_both : (s : State) (cs ds : List Call) → after s (cs ++ ds) ≡ after (after s cs) ds
unfolding after
after_both s [] ds = refl
after_both s (c ∷ cs) ds = after_both (step s c) cs ds

pub answered_both : (s : State) (cs ds : List Call) → answered s (cs ++ ds) ≡ answered s cs ++ answered (after s cs) ds
unfolding after answered
answered_both s [] ds = refl
answered_both s (c ∷ cs) ds =
    ap (λ (l : List AnsweredCall). record { frame = c.frame; row = (answer s c).row; length = (answer s c).length } ∷ l)
    (answered_both (step s c) cs ds)

space_both : (s : State) (x : List ℕ) (cs ds : List Call)
    → space_after s x (cs ++ ds) ≡ space_after (after s cs) (space_after s x cs) ds
unfolding after space_after
space_both s x [] ds = refl
space_both s x (c ∷ cs) ds =
    space_both (step s c)
    (gate s.drive s.medium (record { frame = c.frame; clock = c.clock; space = x })).space cs ds

pub length-answered : (s : State) (cs : List Call) → length (answered s cs) ≡ length cs
unfolding answered
length-answered s [] = refl
length-answered s (c ∷ cs) = ap suc (length-answered (step s c) cs)

-- what stands at the front of a list of answers
pub front-answers : {A : Type 0} (f : AnsweredCall → A) (s : State) (calls : List Call) (n : ℕ) (l l' : List A)
    → n ≡ length calls → l' ≡ with_front (map f (answered s calls)) l → take n l' ≡ map f (answered s calls)
front-answers f s calls n l l' e h =
    ap (take n) h
    ∙ take_at (map f (answered s calls)) (drop (length (map f (answered s calls))) l) n
    (length-map (answered s calls) f ∙ length-answered s calls ∙ sym e)

-- ---- the calls made so far
pub made_none : (d : Drive) (m x : List ℕ) (answers : List Answered) → CallsMade d [] m x answers d m x answers
unfolding after answered space_after
made_none d m x answers = record { state = refl; space = refl; row = refl; size = refl; place = refl }

-- one more in a list of answers
stored : {A : Type 0} (s : State) (f : AnsweredCall → A) (cs : List Call) (c : Call) (l l' : List A) (v d : A)
    → l' ≡ with_front (map f (answered s cs)) l
    → length cs < length l
    → v ≡ f (record { frame = c.frame; row = (answer (after s cs) c).row; length = (answer (after s cs) c).length })
    → set l' (length cs) v ≡ with_front (map f (answered s (cs ++ (c ∷ [])))) l
unfolding answered
stored {A} s f cs c l l' v d e h ev =
    let so : List A = map f (answered s cs) in
    let long : length so ≡ length cs = length-map (answered s cs) f ∙ length-answered s cs in
    let more : so ++ (v ∷ []) ≡ map f (answered s (cs ++ (c ∷ []))) =
    ap (λ (y : A). so ++ (y ∷ [])) ev
    ∙ sym (map-append f (answered s cs) (answered (after s cs) (c ∷ [])))
    ∙ ap (map f) (sym (answered_both s cs (c ∷ []))) in
    ap (λ (y : List A). set y (length cs) v) e
    ∙ front_store so l (length cs) v d long h
    ∙ ap (λ (y : List A). with_front y l) more

-- the same, of what a view of the answers shows
shown : (s : State) (f : AnsweredCall → ℕ) (g : Answered → ℕ) (cs : List Call) (c : Call) (answers answers' : List Answered)
    (a : Answered)
    → map g answers' ≡ with_front (map f (answered s cs)) (map g answers)
    → length cs < length answers
    → g a ≡ f (record { frame = c.frame; row = (answer (after s cs) c).row; length = (answer (after s cs) c).length })
    → map g (set answers' (length cs) a) ≡ with_front (map f (answered s (cs ++ (c ∷ [])))) (map g answers)
shown s f g cs c answers answers' a e h ev =
    map-set g answers' (length cs) a
    ∙ stored s f cs c (map g answers) (map g answers') (g a) 0 e (omega (arith, h, length-map answers g)) ev

-- one call more, of the record at the start of p
pub made_more : (d : Drive) (cs : List Call) (m x : List ℕ) (answers : List Answered) (d' : Drive) (m' x' : List ℕ)
    (answers' : List Answered) (p : List ℕ) (a : Answered) (d'' : Drive) (m'' x'' : List ℕ)
    → CallsMade d cs m x answers d' m' x' answers'
    → length x' ≡ length x
    → AnsweredMet d' m' p x' (answer_with (answered_row a) (answered_length a) d'') m'' x''
    → answered_partition a ≡ (fields (frame_in p)).cred.partition
    → length cs < length answers
    → CallsMade d (cs ++ (call_in (length x) p ∷ [])) m x answers d'' m'' x'' (set answers' (length cs) a)
unfolding after space_after
made_more d cs m x answers d' m' x' answers' p a d'' m'' x'' h same g e room =
    let s : State = state_of d m in
    let c : Call = call_in (length x) p in
    let now : state_of d' m' ≡ after s cs = h.state in
    let size : call_in (length x') p ≡ c = ap (λ (n : ℕ). call_in n p) same in
    record {
      state = g.state
          ∙ ap (λ (y : Call). step (state_of d' m') y) size
          ∙ ap (λ (y : State). step y c) now
          ∙ sym (after_both s cs (c ∷ []));
      space = g.space
          ∙ ap (λ (y : State). (gate y.drive y.medium (record { frame = c.frame; clock = c.clock; space = x' })).space) now
          ∙ ap (λ (y : List ℕ). (gate (after s cs).drive (after s cs).medium (record { frame = c.frame; clock = c.clock; space = y })).space) h.space
          ∙ sym (space_both s x cs (c ∷ []));
      row = shown s AnsweredCall.row answered_row cs c answers answers' a h.row room
          (g.row ∙ ap (λ (y : Call). (answer (state_of d' m') y).row) size ∙ ap (λ (y : State). (answer y c).row) now);
      size = shown s AnsweredCall.length answered_length cs c answers answers' a h.size room
          (g.size ∙ ap (λ (y : Call). (answer (state_of d' m') y).length) size ∙ ap (λ (y : State). (answer y c).length) now);
      place = shown s partition_of answered_partition cs c answers answers' a h.place room e;
    }

-- ---- the records taken so far: cs are the calls of the first `count` records, `taken` bytes
pub record Taken (most space room : ℕ) (input : List ℕ) (cs : List Call) (taken : ℕ) : Type 0 where
  pub those : calls_of most space room input ≡ cs ++ calls_of most space (room - length cs) (drop taken input)
  pub left : left_of most room input ≡ left_of most (room - length cs) (drop taken input)
  pub within : taken ≤ length input
  pub fewer : length cs ≤ room

pub taken_none : (most space room : ℕ) (input : List ℕ) → Taken most space room input [] 0
taken_none most space room input =
    let all : room ≡ room - 0 = omega arith in
    record {
      those = ap (λ (n : ℕ). calls_of most space n input) all;
      left = ap (λ (n : ℕ). left_of most n input) all;
      within = omega arith;
      fewer = omega arith;
    }

pub taken_more : (most space room : ℕ) (input : List ℕ) (cs : List Call) (taken size : ℕ)
    → Taken most space room input cs taken
    → length cs < room
    → broken most (drop taken input) ≡ false
    → size ≡ record_head + frame_length (drop taken input)
    → taken + size ≤ length input
    → Taken most space room input (cs ++ (call_in space (drop taken input) ∷ [])) (taken + size)
taken_more most space room input cs taken size t h b e w =
    let p : List ℕ = drop taken input in
    let k : ℕ = room - suc (length cs) in
    let c : Call = call_in space p in
    let next : room - length cs ≡ suc k = omega (arith, h) in
    let long : length (cs ++ (c ∷ [])) ≡ suc (length cs) = length-append cs (c ∷ []) ∙ omega arith in
    let fewer : room - length (cs ++ (c ∷ [])) ≡ k = omega (arith, long) in
    let f = calls_first most space k p b in
    let rest : after_record p ≡ drop (taken + size) input =
    ap (λ (n : ℕ). drop n p) (sym e) ∙ drop-drop size taken input in
    record {
      those = t.those
          ∙ ap (λ (n : ℕ). cs ++ calls_of most space n p) next
          ∙ ap (λ (l : List Call). cs ++ l) f.0
          ∙ ap (λ (l : List ℕ). cs ++ (c ∷ calls_of most space k l)) rest
          ∙ sym (append_assoc cs (c ∷ []) (calls_of most space k (drop (taken + size) input)))
          ∙ ap (λ (n : ℕ). (cs ++ (c ∷ [])) ++ calls_of most space n (drop (taken + size) input)) (sym fewer);
      left = t.left
          ∙ ap (λ (n : ℕ). left_of most n p) next
          ∙ f.1
          ∙ ap (λ (l : List ℕ). left_of most k l) rest
          ∙ ap (λ (n : ℕ). left_of most n (drop (taken + size) input)) (sym fewer);
      within = w;
      fewer = omega (arith, long, h);
    }

pub record AllTaken (most space room : ℕ) (input : List ℕ) (cs : List Call) (taken : ℕ) : Type 0 where
  pub those : calls_of most space room input ≡ cs
  pub left : left_of most room input ≡ drop taken input

pub taken_full : (most space room : ℕ) (input : List ℕ) (cs : List Call) (taken : ℕ)
    → Taken most space room input cs taken → room ≤ length cs → AllTaken most space room input cs taken
unfolding calls_of left_of
taken_full most space room input cs taken t h =
    let z : room - length cs ≡ 0 = omega (arith, h) in
    record {
      those = t.those ∙ ap (λ (n : ℕ). cs ++ calls_of most space n (drop taken input)) z ∙ append-nil cs;
      left = t.left ∙ ap (λ (n : ℕ). left_of most n (drop taken input)) z;
    }

pub taken_stuck : (most space room : ℕ) (input : List ℕ) (cs : List Call) (taken : ℕ)
    → Taken most space room input cs taken → broken most (drop taken input) ≡ true
    → AllTaken most space room input cs taken
taken_stuck most space room input cs taken t b =
    let n = calls_none most space (room - length cs) (drop taken input) b in
    record { those = t.those ∙ ap (λ (l : List Call). cs ++ l) n.0 ∙ append-nil cs; left = t.left ∙ n.1 }

-- ---- both: `count` records of the input are answered
pub record Answering (d : Drive) (most room : ℕ) (m input x : List ℕ) (answers : List Answered) (d' : Drive)
    (m' x' : List ℕ) (answers' : List Answered) (taken count : ℕ) : Type 0 where
  pub calls : List Call
  pub number : length calls ≡ count
  pub records : Taken most (length x) room input calls taken
  pub made : CallsMade d calls m x answers d' m' x' answers'

pub answering_none : (d : Drive) (most room : ℕ) (m input x : List ℕ) (answers : List Answered)
    → Answering d most room m input x answers d m x answers 0 0
answering_none d most room m input x answers = record {
  calls = [];
  number = refl;
  records = taken_none most (length x) room input;
  made = made_none d m x answers;
}

-- the gate's answer a to one more, the whole record behind the bytes taken
pub answering_more : (d : Drive) (most room : ℕ) (m input x : List ℕ) (answers : List Answered) (d' : Drive)
    (m' x' : List ℕ) (answers' : List Answered) (taken count clock : ℕ) (frame : List ℕ) (a : Answered) (d'' : Drive)
    (m'' x'' : List ℕ)
    → Answering d most room m input x answers d' m' x' answers' taken count
    → count < room
    → room ≡ length answers
    → length x' ≡ length x
    → WholeMet most (drop taken input) clock frame
    → GateMet d' m' (call_of frame clock x') (answer_with (answered_row a) (answered_length a) d'') m'' x''
    → answered_partition a ≡ (fields frame).cred.partition
    → Answering d most room m input x answers d'' m'' x'' (set answers' count a) (taken + (record_head + length frame))
    (count + 1)
answering_more d most room m input x answers d' m' x' answers' taken count clock frame a d'' m'' x'' h lt full same w g e =
    let p : List ℕ = drop taken input in
    let r = answer_with (answered_row a) (answered_length a) d'' in
    let met = answered_met d' m' p x' r m'' x''
    (subst (λ (k : ℕ). GateMet d' m' (call_of (frame_in p) k x') r m'' x'') w.reading
    (subst (λ (f : List ℕ). GateMet d' m' (call_of f clock x') r m'' x'') w.content g)) in
    let n : length h.calls ≡ count = h.number in
    let fits : taken + (record_head + length frame) ≤ length input =
    omega (arith, w.within, length-drop taken input, h.records.within) in
    let made = made_more d h.calls m x answers d' m' x' answers' p a d'' m'' x'' h.made same met
    (e ∙ ap (λ (f : List ℕ). (fields f).cred.partition) w.content) (omega (arith, n, lt, full)) in
    record {
      calls = h.calls ++ (call_in (length x) p ∷ []);
      number = length-append h.calls (call_in (length x) p ∷ []) ∙ ap (λ (k : ℕ). k + 1) n;
      records = taken_more most (length x) room input h.calls taken (record_head + length frame) h.records
          (omega (arith, n, lt)) w.whole (ap (λ (k : ℕ). record_head + k) w.counted) fits;
      made = subst
          (λ (k : ℕ). CallsMade d (h.calls ++ (call_in (length x) p ∷ [])) m x answers d'' m'' x'' (set answers' k a)) n made;
    }

-- no more can be: all is answered
pub answering_all : (d : Drive) (most : ℕ) (m input x : List ℕ) (answers : List Answered) (r : Answers) (m' x' : List ℕ)
    (answers' : List Answered)
    → (a : Answering d most (length answers) m input x answers r.drive m' x' answers' r.taken r.count)
    → AllTaken most (length x) (length answers) input a.calls r.taken
    → AnswerMet d most m input x answers r m' x' answers'
answering_all d most m input x answers r m' x' answers' a t =
    record {
      made = subst (λ (cs : List Call). CallsMade d cs m x answers r.drive m' x' answers') (sym t.those) a.made;
      count = sym a.number ∙ ap length (sym t.those);
      left = sym t.left;
      within = a.records.within;
    }
