-- The value of a name as a world has it, or the file that is at fault (gitrepository-layout(5), "HEAD", "refs" and "packed-refs").
use Rattle.std.specs.Prelude.{◌≡◌, ℕ, zero, suc, if◌then◌else◌, List, [], unwrap_or, Option, Some, None, Result, Ok, Err}
use Rattle.std.specs.FinMap as map
use Rattle.std.specs.Str.{bytes_eq}
use Rattle.seq_base.specs.Words.{Id, Name, Text}
use Rattle.seq_base.specs.World.{World}
use Rattle.seq_outside.specs.Halts.{◌>>=◌, or_stop}
use Rattle.ref_text.specs.declared.head.Head.{Head}
use Rattle.ref_text.specs.declared.head.Head.TheVariants.{Branch, Detached}
use Rattle.ref_text.specs.declared.log.LogLine.{LogLine}
use Rattle.ref_text.specs.ReadHeads.{file_of, head_of}
use Rattle.ref_text.specs.ReadLines.{log_of, packed_of}
use Rattle.ref_text.specs.ReadPacked.{Ref}
use Rattle.ref_text.specs.Refs.{head_name, log_path, packed_path, packed_value, ref_path}
use Rattle.ref_store.specs.declared.fault.RefFault.{RefFault}
use Rattle.ref_store.specs.declared.fault.RefFault.TheVariants.{BadHead, BadRef, BadPacked, BadLog}

-- what was read of a text, or the fault of its first bad line
abbrev pub or_bad : {X : Type 0} → (ℕ → RefFault) → Result X ℕ → Result X RefFault
or_bad fault (Ok x) = Ok x
or_bad fault (Err line) = Err (fault line)

-- the text of HEAD
unfoldable pub head_text : Text → Result Head RefFault
head_text text = or_stop (head_of text) BadHead

abbrev pub head_file : Option Text → Result Head RefFault
head_file (Some text) = head_text text
head_file None = Err BadHead

-- HEAD, which every repository has
unfoldable pub head_at : World → Result Head RefFault
head_at w = head_file (map.get w (ref_path head_name))

-- the packed refs, of which a missing file has none
unfoldable pub packed_at : World → Result (List Ref) RefFault
packed_at w = or_bad BadPacked (packed_of (unwrap_or (map.get w packed_path) []))

unfoldable pub packed_value_at : World → Name → Result (Option Id) RefFault
packed_value_at w name = do
  refs ← packed_at w
  Ok (packed_value refs name)

-- the file of a ref
unfoldable pub file_head : Name → Text → Result Head RefFault
file_head name text = or_stop (file_of name text) (BadRef name)

-- an id to which a file leads, or where the name leads that it has
abbrev pub goes_on : (Name → Result Head RefFault) → Head → Result Head RefFault
goes_on on (Detached id) = Ok (Detached id)
goes_on on (Branch other) = on other

-- a loose file leads on, a name without one is an end
abbrev pub followed : (Name → Result Head RefFault) → Name → Option Text → Result Head RefFault
followed on name (Some text) = do
  head ← file_head name text
  goes_on on head
followed on name None = Ok (Branch name)

-- where the loose files of a name lead, to which one file leads: to an id, or to a name without a file; so many may be read
unfoldable pub end_within : ℕ → World → Name → Name → Result Head RefFault
end_within zero w from name = Err (BadRef from)
end_within (suc n) w from name = followed (end_within n w name) name (map.get w (ref_path name))

unfoldable pub head_end : World → Result Head RefFault
head_end w = do
  head ← head_at w
  goes_on (end_within 5 w head_name) head

-- where the loose files of a name lead, which may lead on five times
unfoldable pub end_at : World → Name → Result Head RefFault
end_at w name = if bytes_eq name head_name then head_end w else end_within 6 w name name

-- the value of an end, by these packed refs
abbrev pub value_by : List Ref → Head → Option Id
value_by refs (Detached id) = Some id
value_by refs (Branch name) = packed_value refs name

-- packed refs are read only for a name without a file
unfoldable pub settled : World → Head → Result (Option Id) RefFault
settled w (Detached id) = Ok (Some id)
settled w (Branch name) = packed_value_at w name

-- the value of a name: that to which its loose files lead, else the packed one
unfoldable pub value_at : World → Name → Result (Option Id) RefFault
value_at w name = do
  end ← end_at w name
  settled w end

-- no fault is in the way of the value, if there is one
abbrev pub HasValue : World → Name → Option Id → Type 0
HasValue w name value = value_at w name ≡ Ok value

-- the log of a name, of which a missing file has no line
unfoldable pub log_at : World → Name → Result (List LogLine) RefFault
log_at w name = or_bad BadLog (log_of (unwrap_or (map.get w (log_path name)) []))
