-- A part that fills no block, and one that fills the block begun: absorbed_short and absorbed_long.
use Rattle.std.proofs.Common.{◌≡◌, ◌-◌, ◌/◌, ◌%◌, length, drop, refl, ap, ◌∙◌, arith, rules}
use Rattle.sha256_block.specs.Sha256.{blocks}
use Rattle.sha256_stream.proofs.Absorbing.{absorbed_short, absorbed_long}
use Rattle.sha256_stream.proofs.absorb.Goals as goal

pub returns-then-n-room : goal.returns-then-n-room
returns-then-n-room c =
    let h = c.args.h in
    let l : length h.pending ≡ 64 = search rules in
    absorbed_short h c.args.part.now l _ (omega arith) refl c.stashed-p.ensures refl

pub returns : goal.returns
returns c =
    let h = c.args.h in
    let p = c.args.part.now in
    let l : length h.pending ≡ 64 = search rules in
    let full = c.stashed-full in
    let room = 64 - h.total % 64 in
    absorbed_long h p l _ full.result room ((length p - room) % 64) refl
    c.if-n-room.false refl
    full.ensures
    (c.blocks-last.ensures
    ∙ ap (λ v. blocks ((length p - room) / 64) v (drop room p)) c.compress-first.ensures)
    c.stashed-p-2.ensures
    refl
