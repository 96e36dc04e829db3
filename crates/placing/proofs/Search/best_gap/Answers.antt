-- An object more (pass_on), also where its end is past all numbers (passed_far), or all (pass_all).
use Rattle.std.proofs.Common.{◌<◌, ◌≤◌, ◌+◌, ap, ◌∙◌, arith, length, map, rules, length-append}
use Rattle.std.proofs.lemmas.List.{length-map}
use Rattle.std.proofs.lemmas.Slice.Zip.{zip_turn, zip_end}
use Rattle.rules.specs.declared.Object.{Object}
use Rattle.state.specs.Table.{objects_in}
use Rattle.placing.specs.Placing.{placed_option, passed_far, pass_to, pass_on, pass_all}
use Rattle.placing.proofs.Search.best_gap.Goals as goal

pub loop-start-preserved-in-Some-checked_add : goal.loop-start-preserved-in-Some-checked_add
loop-start-preserved-in-Some-checked_add c =
    let s = c.args.self in
    let os = objects_in s.table.now in
    let l = c.loop-start in
    let t = zip_turn (map Object.start os) (map Object.size os) l.yielded c.into_iter-start-iterator.result l.start-iterator c.next.new.self c.next.result (search rules) (search rules) l.yielded_by (c.in-Some.start, c.in-Some.size) c.in-Some.is c.next.ensures.steps in
    let within : length l.yielded < length os = rw length-map at t.0 in
    let on = pass_on s.step s.quarter s.size os (length l.yielded) c.in-Some.start.now c.in-Some.size.now within (t.2 0) (t.3 0) in
    let now = c.better_of-best-in-Some-checked_add.ensures _ l.invariant in
    rw (length-append, on, ← c.in-Some-checked_add.ensures.1) now

pub loop-start-preserved : goal.loop-start-preserved
loop-start-preserved c =
    let s = c.args.self in
    let os = objects_in s.table.now in
    let l = c.loop-start in
    let t = zip_turn (map Object.start os) (map Object.size os) l.yielded c.into_iter-start-iterator.result l.start-iterator c.next.new.self c.next.result (search rules) (search rules) l.yielded_by (c.in-Some.start, c.in-Some.size) c.in-Some.is c.next.ensures.steps in
    let within : length l.yielded < length os = rw length-map at t.0 in
    let on = pass_on s.step s.quarter s.size os (length l.yielded) c.in-Some.start.now c.in-Some.size.now within (t.2 0) (t.3 0) in
    let far : s.quarter ≤ c.in-Some.start.now + c.in-Some.size.now = omega (arith, c.in_default.ensures) in
    let same = passed_far s.step s.quarter s.size os (c.in-Some.start.now + c.in-Some.size.now) (pass_to s.step s.quarter s.size os (length l.yielded)) far in
    rw (length-append, on, ← same) l.invariant

pub returns : goal.returns
returns c =
    let s = c.args.self in
    let os = objects_in s.table.now in
    let l = c.loop-start in
    let n = zip_end (map Object.start os) (map Object.size os) l.yielded c.into_iter-start-iterator.result l.start-iterator c.next.new.self c.next.result (search rules) (search rules) l.yielded_by c.in-None.is c.next.ensures.steps in
    let all : length os ≤ length l.yielded = omega (arith, length-map os Object.start, length-map os Object.size) in
    l.invariant ∙ ap (placed_option s.step) (pass_all s.step s.quarter s.size os (length l.yielded) all)
