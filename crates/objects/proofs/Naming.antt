-- What is told of what was read of an object and of a commit.
use Rattle.std.proofs.Common.{◌≡◌, ℕ, ◌<◌, ◌≤◌, true, false, length, Some, None, Result, Ok, Err, refl, sym, ap, ◌∙◌, arith}
use Rattle.std.specs.Prelude.{nat_lt, option_and_then}
use Rattle.std.specs.FinMap as map
use Rattle.std.proofs.lemmas.Bool.Decides.{nat_tests}
use Rattle.grammar.specs.Grammar.{IsFirstBad}
use Rattle.object_text.specs.declared.object.Object.{Object}
use Rattle.object_text.specs.declared.commit.Commit.{Commit}
use Rattle.object_text.specs.Commits.{IsCommit}
use Rattle.object_text.specs.Faults.{IsCommitFault}
use Rattle.object_text.specs.declared.fault.TextFault.{TextFault}
use Rattle.object_text.specs.declared.fault.TextFault.TheVariants as text
use Rattle.object_text.specs.ReadObjects.{object_from}
use Rattle.object_text.specs.ReadCommits.{commit_from}
use Rattle.object_text.specs.Store.{commit_of, content_limit, object_at, object_of, oversize, oversize_at, value_read}
use Rattle.seq_base.specs.Repository.{object_path}
use Rattle.object_text.proofs.CommitLaws.{commit_reads}
use Rattle.object_text.proofs.ObjectLaws.{object_reads}
use Rattle.seq_base.specs.Words.{Id, Text}
use Rattle.seq_base.specs.World.{World}
use Rattle.seq_outside.specs.Halts.{Denies}
use Rattle.seq_outside.specs.declared.lack.Lack.TheVariants as lack
use Rattle.seq_outside.specs.declared.limit.LimitWhat.TheVariants.{Parents}
use Rattle.objects.specs.Halts.{halt_of_commit, halt_of_object}
use Rattle.objects.specs.Named.{commit_spelled, object_named}
use Rattle.objects.specs.Reads.{GivesObject, IsGot, IsObjectTooLarge, IsWithinLimit}
use Rattle.objects.specs.declared.fault.ObjectFault.{ObjectFault}
use Rattle.objects.specs.declared.fault.ObjectFault.TheVariants.{Missing, TooLarge, WrongHash, BadText, Collision, Blocked, Fault, Memory}
use Rattle.objects.proofs.Reading.{above_is, spelled, within_is}

-- ---- commits

commit_read : (c : Commit) (bytes : Text) → IsCommit c bytes → commit_of bytes ≡ Some c
unfolding commit_of
commit_read c bytes is = ap value_read (commit_reads.again c bytes is)

commit_bad : (bytes : Text) (at : ℕ) → IsFirstBad IsCommit bytes at → commit_of bytes ≡ None
unfolding commit_of
commit_bad bytes at bad = of (commit_from bytes) refl
  where
    of : (read : Result Commit ℕ) → commit_from bytes ≡ read → value_read read ≡ None
    of (Ok c) is = absurd (bad.no_text c (commit_reads.takes bytes c is))
    of (Err left) is = refl

pub few_parents : (id : Id) (content : Text) (c : Commit) → IsCommit c content → length c.parents ≤ 16 → commit_spelled id content ≡ Ok c
unfolding commit_spelled
few_parents id content c is few =
    let small : nat_lt 16 (length c.parents) ≡ false = grind (arith, nat_tests) in rw (commit_read c content is, small) refl

many_parents : (id : Id) (content : Text) (c : Commit) → IsCommit c content → 16 < length c.parents
    → commit_spelled id content ≡ Err (lack.Limit Parents (length c.parents))
unfolding commit_spelled
many_parents id content c is many =
    let large : nat_lt 16 (length c.parents) ≡ true = grind (arith, nat_tests) in rw (commit_read c content is, large) refl

no_commit : (id : Id) (content : Text) (at : ℕ) → IsFirstBad IsCommit content at → commit_spelled id content ≡ Err (lack.Object id)
unfolding commit_spelled
no_commit id content at bad = rw (commit_bad content at bad) refl

-- what is told of a content that is no commit
pub commit_fault : (id : Id) (content : Text) (fault : TextFault) → IsCommitFault content fault
    → Denies {Y = Commit} (halt_of_commit id fault) (commit_spelled id content)
commit_fault id content (text.Bad at) bad = no_commit id content at bad
commit_fault id content (text.Parents count) (c, is, count_is, many) =
    many_parents id content c is (let same = count_is in omega arith) ∙ ap (λ (n : ℕ). Err (lack.Limit Parents n)) count_is
commit_fault id content text.Memory bad = tt

-- ---- objects

small : (n : ℕ) → n ≤ content_limit → oversize n ≡ None
small n low = rw (within_is n low) refl

large : (n : ℕ) → content_limit < n → oversize n ≡ Some n
large n high = rw (above_is n high) refl

-- the text of a file that is within the limit
within : (text : Text) → IsWithinLimit text → option_and_then (λ o. oversize (length o.bytes)) (object_of text) ≡ None
unfolding object_of
within text fits = of (object_from text) refl
  where
    of : (read : Result Object ℕ) → object_from text ≡ read → option_and_then (λ o. oversize (length o.bytes)) (value_read read) ≡ None
    of (Ok o) is = small (length o.bytes) (fits o (object_reads.takes text o is))
    of (Err left) is = refl

-- an object that is too large, by its file
pub size_told : (w : World) (id : Id) (size : ℕ) → IsObjectTooLarge w id size → oversize_at w id ≡ Some size
unfolding oversize_at
size_told w id size has =
    let big = has.2 in
    rw (has.1, spelled big.object has.0 big.spelled) (ap (λ n. oversize n) (sym big.count_is) ∙ large size big.above)

-- a file that is not there, or is within the limit
size_of_none : (w : World) (id : Id) → map.get w (object_path id) ≡ None → oversize_at w id ≡ None
unfolding oversize_at
size_of_none w id none = rw none refl

size_within : (w : World) (id : Id) (text : Text) → map.get w (object_path id) ≡ Some text → IsWithinLimit text → oversize_at w id ≡ None
unfolding oversize_at
size_within w id text held fits = rw held (within text fits)

-- what is told of what was got
pub named_ok : (w : World) (id : Id) (o : Object) → object_at w id ≡ Some o → object_named w id ≡ Ok o
unfolding object_named
named_ok w id o is = rw is refl

pub named_err : (w : World) (id : Id) (fault : ObjectFault) → IsGot w id (Err fault) → GivesObject (Err fault) (object_at w id)
    → Denies {Y = Object} (halt_of_object id fault) (object_named w id)
unfolding object_named
named_err w id Missing is none = rw (none, size_of_none w id is) refl
named_err w id (TooLarge size) is none = rw (none, size_told w id size is) refl
named_err w id (WrongHash wanted found) is none = rw (none, size_within w id is.0 is.1 is.2.0) refl
named_err w id (BadText at) is none = rw (none, size_within w id is.0 is.1 (λ o spells. absurd (is.2.1.no_text o spells))) refl
named_err w id (Collision wanted kept) is none = absurd is
named_err w id (Blocked path) is none = tt
named_err w id Fault is none = tt
named_err w id Memory is none = tt
