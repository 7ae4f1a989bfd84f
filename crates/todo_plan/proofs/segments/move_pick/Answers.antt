use Rattle.std.proofs.Common.{rules, ◌≡◌, ◌<◌, ℕ, insert, length, subst, sym, Some}
use Rattle.std.specs.Prelude.{OnOk}
use Rattle.todo_plan.specs.Autosquash.{up_to_last}
use Rattle.todo_plan.proofs.SegmentLaws.{home_there, move_lines, move_segments}
use Rattle.todo_plan.proofs.segments.move_pick.Goals as goal

pub index_mut-requires : goal.index_mut-requires
index_mut-requires c =
    let places = c.args.places.now in
    let within : c.index-home.result.now < length places.segments.items =
    subst (λ (home : ℕ). home < length places.segments.items) (sym c.index-home.ensures)
    (home_there places.segments.items places.homes.items c.args.target c.index-home.result.now c.requires.segments c.requires.target)
    in
    search (rules, within)

pub returns-clause-lines : goal.returns-clause-lines
returns-clause-lines c =
    let places = c.args.places.now in
    let now = c.index_mut.result.now in
    let number : c.len.result ≡ length places.homes.items = search rules in
    let put =
    subst (λ (n : ℕ). OnOk c.put_in.result (c.put_in.new.segment ≡ insert now (up_to_last c.args.target now)
    (record { line = c.args.line; pick = Some n; target = Some c.args.target }))) number c.put_in.ensures
    in
    move_lines c.put_in.result places.segments.items places.homes.items c.args.target c.index-home.result.now now c.put_in.new.segment
    (record { line = c.args.line; pick = Some (length places.homes.items); target = Some c.args.target }) c.requires.segments c.requires.target c.index-home.ensures
    c.index_mut.ensures.value put

pub returns-clause-segments : goal.returns-clause-segments
returns-clause-segments c =
    let places = c.args.places.now in
    let now = c.index_mut.result.now in
    let number : c.len.result ≡ length places.homes.items = search rules in
    let put =
    subst (λ (n : ℕ). OnOk c.put_in.result (c.put_in.new.segment ≡ insert now (up_to_last c.args.target now)
    (record { line = c.args.line; pick = Some n; target = Some c.args.target }))) number c.put_in.ensures
    in
    move_segments c.put_in.result places.segments.items places.homes.items c.push.new.self.items c.args.target c.index-home.result.now now
    c.put_in.new.segment c.args.line c.requires.segments c.requires.target c.index-home.ensures c.index_mut.ensures.value put c.in_ok-push.ensures.items
