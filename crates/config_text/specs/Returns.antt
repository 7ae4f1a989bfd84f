-- Reading a configuration whose lines may end in CR and LF: each CR before LF is dropped.
use Rattle.std.specs.Prelude.{◌≡◌, ℕ, suc, ◌==◌, Bool, true, false, if◌then◌else◌, List, [], ◌∷◌, length, Option, Some, None, Result, Ok, Err}
use Rattle.config_text.specs.declared.config.Setting.{Setting}
use Rattle.config_text.specs.Reading.{State, step, may_return, whole}

-- what is known behind a front, and whether its last byte is a CR, of which the next byte decides
pub record Front : Type 0 where
  pub state : State
  pub returned : Bool

abbrev pub fed : State → Front
fed s = record { state = s; returned = false }

-- what a CR was, once it is known whether LF follows
abbrev pub settled : Front → Bool → Option State
settled f feeds = if f.returned then (if feeds then Some f.state else step f.state 13) else Some f.state

abbrev pub unreturned : Option State → Option Front
unreturned None = None
unreturned (Some s) = Some (fed s)

abbrev pub then_feed : Option State → ℕ → Option Front
then_feed None b = None
then_feed (Some s) b =
    if b == 13 then (if may_return s.place then Some (record { state = s; returned = true }) else None)
    else unreturned (step s b)

-- behind a byte, if some configuration goes on with it
unfoldable pub feed : Front → ℕ → Option Front
feed f b = then_feed (settled f (b == 10)) b

abbrev pub then_close : Option State → Option (List Setting)
then_close None = None
then_close (Some s) = whole (step s 10)

-- the settings, where the text may end there: its last line may lack the LF
unfoldable pub close : Front → Option (List Setting)
close f = then_close (settled f false)

abbrev pub or_end : Option (List Setting) → Result (List Setting) ℕ
or_end None = Err 0
or_end (Some settings) = Ok settings

abbrev pub going : Option Front → ℕ → (Front → Result (List Setting) ℕ) → Result (List Setting) ℕ
going None left more = Err left
going (Some f) left more = more f

-- the settings, or how many bytes are left at the first that may not stand there
unfoldable pub read_from : Front → List ℕ → Result (List Setting) ℕ
read_from f [] = or_end (close f)
read_from f (b ∷ bs) = going (feed f b) (suc (length bs)) (λ g. read_from g bs)

-- it went on to that front, or there is none
abbrev pub Fed : Option Front → Bool → Front → Type 0
Fed None went now = went ≡ false
Fed (Some f) went now = (went ≡ true) × (now ≡ f)
