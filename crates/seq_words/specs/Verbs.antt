-- The command that `clap` is told of: one argument a row.
use Rattle.std.specs.Prelude.{true, List, [], ◌∷◌, map, option_map, slice_get, Option, Some, None, codes, if◌then◌else◌}
use Rattle.std.specs.Option.{option_or}
use Rattle.std.specs.List.{fold}
use Rattle.seq_model.specs.Rows.{Row, is_flag}
use Rattle.clap.specs.Simple.{App, built, new_app, new_rule, on_top, with_rule}
use Rattle.clap.specs.Lexer.{strip_byte}
use Rattle.clap.specs.Walk.{Rule, Text}
use Rattle.clap.specs.declared.builder.action.ArgAction.TheVariants.{Append}

-- each use of an argument is kept
abbrev pub kept_rule : Row → Rule
kept_rule row = record (new_rule row.name) { action = Some Append }

-- a flag takes no value, and each use of it has the empty one
abbrev pub valued_rule : Row → Rule
valued_rule row = if is_flag row.form then record (kept_rule row) {
  range = Some (record {
    start_inclusive = 0;
    end_inclusive = 0;
  });
  missing = [] ∷ [];
} else kept_rule row

-- by `--long`, by `-s`, or by no name
abbrev pub named_rule : Option Text → Option (Option Text) → Rule → Rule
named_rule None stem rule = rule
named_rule (Some rest) (Some (Some long)) rule = record rule { long = Some long }
named_rule (Some rest) _ rule = record rule { short = option_or (slice_get rest 0) rule.short }

abbrev pub told_rule : Row → Rule
told_rule row = named_rule (strip_byte 45 row.name) (option_map (strip_byte 45) (strip_byte 45 row.name)) (valued_rule row)

abbrev pub no_rules : App
no_rules = on_top (λ s. record s {
  no_binary_name = true;
  disable_help_flag = true;
}) (new_app (codes "gitseq"))

abbrev pub told_app : List Row → App
told_app rows = fold with_rule no_rules (map told_rule rows)

-- the arguments of the command, as it is built
abbrev pub told_rules : List Row → List Rule
told_rules rows = (built (told_app rows)).top.rules
