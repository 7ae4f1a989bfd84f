use Rattle.std.proofs.Common.{rules}
use Rattle.reading.specs.Beginning.{looks_again}
use Rattle.seq_start.proofs.begin.look_again.Goals as goal

pub returns-in_err-look_if_ran-clause-follows : goal.returns-in_err-look_if_ran-clause-follows
unfolding looks_again
returns-in_err-look_if_ran-clause-follows g c told =
    let looked = c.in_err-look_if_ran.ensures.follows c.args.todo.left told in
    search (rules, looked)

pub returns-in_err-look_at_way-clause-follows : goal.returns-in_err-look_at_way-clause-follows
unfolding looks_again
returns-in_err-look_at_way-clause-follows g c told =
    let looked = c.in_ok-look_if_ran.ensures.follows c.args.todo.left told in
    let way = c.in_err-look_at_way.ensures.gives c.args.todo.left told in
    search (rules, looked, way)

pub returns-clause-follows : goal.returns-clause-follows
unfolding looks_again
returns-clause-follows g c told =
    let looked = c.in_ok-look_if_ran.ensures.follows c.args.todo.left told in
    let way = c.in_ok-look_at_way.ensures.gives c.args.todo.left told in
    search (rules, looked, way)
