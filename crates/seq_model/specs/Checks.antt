-- What each command looks at before it begins: that there is a repository, HEAD and the commit that it is at, the packed refs, and the
-- commit that a word names (gitrepository-layout(5), "HEAD" and "packed-refs"; gitrevisions(7)).
use Rattle.std.specs.Prelude.{not, is_some, codes, Option, Result, Ok}
use Rattle.std.specs.FinMap as map
use Rattle.ref_store.specs.Values.{head_at, packed_at, value_at}
use Rattle.ref_store.specs.declared.fault.RefFault.{RefFault}
use Rattle.ref_store.specs.declared.fault.RefFault.TheVariants as ref
use Rattle.ref_text.specs.Refs.{head_name}
use Rattle.rev_names.specs.Revs.{rev_at}
use Rattle.rev_names.specs.declared.fault.RevFault.{RevFault}
use Rattle.rev_names.specs.declared.fault.RevFault.TheVariants as rev
use Rattle.seq_base.specs.Words.{Id, Text}
use Rattle.seq_base.specs.World.{World}
use Rattle.seq_outside.specs.Halts.{◌>>=◌, for_reason}
use Rattle.seq_outside.specs.declared.limit.LimitWhat.TheVariants.{ObjectBytes, Parents}
use Rattle.seq_model.specs.Refusing.{or_refuse, refuse_if}
use Rattle.seq_model.specs.declared.denial.Denial.{Denial}
use Rattle.seq_model.specs.declared.denial.Denial.TheVariants.{Refused, Limit}
use Rattle.seq_model.specs.declared.place.Place.{Place}
use Rattle.seq_model.specs.declared.refusal.Refusal.TheVariants.{NotARepository, BadHead, BadRefs, NoSuchRev, AmbiguousRev, NotACommit, NoParent, NoLogEntry, BadRevForm, UnbornHead, BadObject}

-- every repository has HEAD
unfoldable pub is_repository : World → Result (Unit {0}) Denial
is_repository w = refuse_if (not (is_some (map.get w (codes ".git/HEAD")))) NotARepository

-- HEAD is bad where its own file is, or one to which it leads; where no file decides, the packed refs are (it has no other fault)
abbrev pub denied_refs : RefFault → Denial
denied_refs ref.BadHead = Refused BadHead
denied_refs (ref.BadRef name) = Refused BadHead
denied_refs (ref.BadPacked line) = Refused (BadRefs line)
denied_refs (ref.BadLog line) = Refused BadHead
denied_refs (ref.Moved found) = Refused BadHead
denied_refs (ref.Blocked name) = Refused BadHead

-- HEAD, and the commit that it is at
unfoldable pub place_at : World → Result Place Denial
place_at w = do
  head ← for_reason denied_refs (head_at w)
  tip ← for_reason denied_refs (value_at w head_name)
  Ok (record { head = head; tip = tip })

-- the packed refs can be read
unfoldable pub has_refs : World → Result (Unit {0}) Denial
has_refs w = do
  refs ← for_reason denied_refs (packed_at w)
  Ok tt

-- HEAD, where all refs can be read
unfoldable pub place_in : World → Result Place Denial
place_in w = do
  place ← place_at w
  refs ← has_refs w
  Ok place

-- what is refused of a word, which is told whole; one whose ref cannot be read names nothing
abbrev pub denied_rev : Text → RevFault → Denial
denied_rev word rev.NoSuch = Refused (NoSuchRev word)
denied_rev word (rev.Ambiguous first second) = Refused (AmbiguousRev word first second)
denied_rev word rev.NotACommit = Refused (NotACommit word)
denied_rev word rev.NoParent = Refused (NoParent word)
denied_rev word rev.NoLogEntry = Refused (NoLogEntry word)
denied_rev word rev.Form = Refused (BadRevForm word)
denied_rev word (rev.BadObject id) = Refused (BadObject id)
denied_rev word (rev.TooLarge length) = Limit ObjectBytes length
denied_rev word (rev.Parents count) = Limit Parents count
denied_rev word (rev.BadRef name) = Refused (NoSuchRev word)

-- the commit that a word names
unfoldable pub commit_by : World → Text → Result Id Denial
commit_by w word = for_reason (denied_rev word) (rev_at w word)

-- HEAD is at a commit
unfoldable pub born : Option Id → Result Id Denial
born tip = or_refuse tip UnbornHead
