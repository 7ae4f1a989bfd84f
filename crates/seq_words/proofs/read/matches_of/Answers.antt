use Rattle.std.proofs.Common.{◌≡◌, ◌∙◌, ap, sym, refl, rules, true, true≢false, [], is_some, map}
use Rattle.clap.specs.declared.error.kind.ErrorKind.TheVariants.{OutOfMemory}
use Rattle.seq_model.specs.Given.{any, given_behind}
use Rattle.seq_words.specs.Verbs.{told_app}
use Rattle.seq_words.proofs.Heard.{held_by, plain_taken}
use Rattle.seq_words.proofs.read.matches_of.Goals as goal

pub prove-unreachable-requires : goal.prove-unreachable-requires
prove-unreachable-requires c =
    let plain : c.is_plain.result ≡ true = search rules in
    let takes = plain_taken c.args.verb _ _ (c.in_ok-command.ensures ∙ ap told_app c.table-rows.ensures)
    (sym (c.is_plain.ensures ∙ ap (λ rows. is_some (given_behind rows [] any (map (λ word. word.now) c.args.words.now))) c.table-rows.ensures) ∙ plain) in
    let kind : c.kind.result ≡ OutOfMemory = c.kind.ensures ∙ c.in-Err.ensures.passes takes in
    let same : c.eq-is_memory.result ≡ true = rw (c.eq-is_memory.ensures, kind) refl in
    true≢false (sym same ∙ c.if-prove.true)

pub returns-in-Ok : goal.returns-in-Ok
returns-in-Ok c =
    let plain : c.is_plain.result ≡ true = search rules in
    held_by c.args.verb _ _ c.in-Ok.m (c.in_ok-command.ensures ∙ ap told_app c.table-rows.ensures) c.in-Ok.ensures.matches
    (sym (c.is_plain.ensures ∙ ap (λ rows. is_some (given_behind rows [] any (map (λ word. word.now) c.args.words.now))) c.table-rows.ensures) ∙ plain)
