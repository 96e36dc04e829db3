-- A whole record has the clock and the frame of its answer; any other answer says that there is none.
use Rattle.std.proofs.Common.{◌≡◌, refl, true, ◌∙◌, List, ℕ, ◌-◌, ◌+◌, ◌^◌, ◌<◌, drop, length-take-le, length-drop, arith}
use Rattle.lemmas.specs.BigEndian.{number_bound}
use Rattle.lemmas.specs.Lists.{part}
use Rattle.rules.specs.Program.{broken, frame_length, length_start, record_head}
use Rattle.record.specs.declared.Arrived.{Arrived}
use Rattle.record.specs.declared.Arrived.TheVariants.{Whole, Malformed, Short}
use Rattle.record.specs.Arrival.{facts_of, record_facts}
use Rattle.record.specs.ArrivalLaws.{facts_of-whole, facts_of-malformed, facts_of_short, malformed-broken}
use Rattle.reader.proofs.whole.whole_record.Goals as goal

not_whole : (most : ℕ) (s : List ℕ) (a : Arrived) → facts_of a ≡ record_facts most s
    → ((clock size : ℕ) → a ≡ Whole clock size → ⊥)
    → broken most s ≡ true
not_whole most s (Whole clock size) e n = absurd (n clock size refl)
not_whole most s Malformed e n = malformed-broken most s (facts_of-malformed most s e)
not_whole most s Short e n = (facts_of_short most s e).0

pub returns-in_default : goal.returns-in_default
returns-in_default c =
    not_whole c.args.most c.args.input.now c.arrival.result c.arrival.ensures c.in_default.not-Whole

pub overflow_add-frame : goal.overflow_add-frame
overflow_add-frame c =
    let s : List ℕ = c.args.input.now in
    let small : frame_length s < 256 ^ 4 =
    number_bound s length_start 4 (λ k. omega (arith, c.type_inv.input k)) in
    omega (arith, (facts_of-whole c.args.most s c.in-Whole.clock c.in-Whole.size c.in-Whole.ensures).counted, small)

pub slice_bounds-frame-end : goal.slice_bounds-frame-end
slice_bounds-frame-end c =
    (facts_of-whole c.args.most c.args.input.now c.in-Whole.clock c.in-Whole.size c.in-Whole.ensures).fits

pub returns : goal.returns
unfolding part
returns c =
    let s : List ℕ = c.args.input.now in
    let size : ℕ = c.in-Whole.size in
    let w = facts_of-whole c.args.most s c.in-Whole.clock size c.in-Whole.ensures in
    let n : record_head + size - record_head ≡ size = omega arith in
    let long = length-take-le size (drop record_head s) (omega (arith, w.fits, length-drop record_head s)) in
    rw n (record {
      whole = w.whole;
      reading = w.reading;
      content = w.frame;
      counted = long ∙ w.counted;
      within = omega (arith, long, w.fits);
    })
