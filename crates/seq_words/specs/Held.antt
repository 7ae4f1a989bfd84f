-- What it is to read plain words by `clap`.
use Rattle.std.specs.Prelude.{◌≡◌, ⊤, IsSomeAnd, Option, None, true, false, List, [], map, Result, Ok, Err}
use Rattle.std.specs.Option.{option_and_then}
use Rattle.std.specs.List.{list_all}
use Rattle.std.specs.Borrow.{Bor}
use Rattle.std.specs.Global.{Vec}
use Rattle.seq_base.specs.StorePaths.{is_text}
use Rattle.seq_model.specs.Given.{Given, any, given_behind, if_single}
use Rattle.seq_model.specs.Rows.{Row}
use Rattle.seq_model.specs.declared.usage.UsageFault.{UsageFault}
use Rattle.seq_model.specs.declared.usage.UsageFault.TheVariants.{Parse}
use Rattle.clap.specs.Walk.{Text}
use Rattle.clap.specs.declared.parser.matches.ArgMatches.{ArgMatches}
use Rattle.seq_words.specs.Forms.{HoldsOf}
use Rattle.seq_words.specs.Told.{Holds}
use Rattle.seq_words.specs.declared.fault.BadWords.{BadWords}
use Rattle.seq_words.specs.declared.fault.BadWords.TheVariants.{Usage, Memory}

abbrev pub GivesText : Result (Bor Text) BadWords → Text → Type 0
GivesText (Ok text) word = (text.now ≡ word) × (is_text word ≡ true)
GivesText (Err (Usage fault)) word = (fault ≡ Parse) × (is_text word ≡ false)
GivesText (Err Memory) word = ⊤

abbrev pub GivesTexts : Result (Vec (Bor Text)) BadWords → List Text → Type 0
GivesTexts (Ok texts) words = (map (λ text. text.now) texts.items ≡ words) × (list_all is_text words ≡ true)
GivesTexts (Err (Usage fault)) words = (fault ≡ Parse) × (list_all is_text words ≡ false)
GivesTexts (Err Memory) words = ⊤

-- the answer holds what words give that stand where they may
abbrev pub HoldsPlain : List Row → Result ArgMatches BadWords → Option (List Given) → Type 0
HoldsPlain rows (Ok m) given = IsSomeAnd given (HoldsOf rows m)
HoldsPlain rows (Err (Usage fault)) given = (fault ≡ Parse) × (given ≡ None)
HoldsPlain rows (Err Memory) given = ⊤

-- what texts give that stand where they may, and twice only where that is allowed
abbrev pub placed_once : List Row → List Text → Option (List Given)
placed_once rows texts = option_and_then (if_single rows) (given_behind rows [] any texts)

-- the answer holds what is given, or is what is wrong
abbrev pub ReadsHeld : Result ArgMatches BadWords → Result (List Given) UsageFault → Type 0
ReadsHeld (Ok m) given = (all : List Given) × (given ≡ Ok all) × Holds m all
ReadsHeld (Err (Usage fault)) given = given ≡ Err fault
ReadsHeld (Err Memory) given = ⊤
