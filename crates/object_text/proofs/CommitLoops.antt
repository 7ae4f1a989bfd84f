-- The loops over the headers and the parents of a commit.
use Rattle.std.proofs.Common.{◌≡◌, ℕ, ◌<◌, Bool, true, false, cond, List, [], ◌∷◌, ◌++◌, length, Option, Some, None, Result, Ok, Err, refl, sym, ap, ◌∙◌}
use Rattle.std.proofs.lemmas.List.{append-nil}
use Rattle.grammar.specs.Gives.{Fails}
use Rattle.grammar.specs.Readers.{◌>>=◌, star_at, begins, literal_at, with_none}
use Rattle.grammar.specs.declared.fault.ReadError.{ReadError}
use Rattle.grammar.specs.declared.fault.ReadError.TheVariants as errors
use Rattle.grammar.proofs.StarLoops.{Loop, loop_more, loop_err, loop_last, with_front}
use Rattle.object_text.specs.declared.commit.Commit.{Commit}
use Rattle.object_text.specs.Commits.{is_in_line, encoding_of}
use Rattle.object_text.specs.ReadCommits.{header_from, message_from, has_header, headers_from, tail_from, is_p, added, parent_line_from, people_from, parents_from, Takes}
use Rattle.object_text.proofs.CommitLaws.{Header, Message, headers_star, ParentLine, People, parents_star}

-- ---- the encoding, a line at a time

pub takes_all : (found lasts : Bool) (value : List ℕ) (lines : List (List ℕ)) → Takes found lasts value lines
    → encoding_of lines ≡ cond found (Some value) None
takes_all found lasts value lines t = ap encoding_of (sym (append-nil lines)) ∙ t.whole [] ∙ at found lasts
  where
    at : (f o : Bool) → cond f (Some (value ++ cond o [] [])) None ≡ cond f (Some value) None
    at true true = ap Some (append-nil value)
    at true false = ap Some (append-nil value)
    at false o = refl

-- ---- the headers

-- these lines are read, and that is left
abbrev pub HeadersLoop : List ℕ → List (List ℕ) → Bool → List ℕ → Type 0
HeadersLoop bytes lines behind rest =
    Loop (λ s. Unit {0}) is_in_line has_header Header (λ s. Message) header_from (λ s rest. message_from rest) headers_star
    (star_at is_in_line has_header header_from (λ s rest. message_from rest) (length bytes) false bytes) lines behind rest

pub header_more : (bytes : List ℕ) (lines : List (List ℕ)) (behind : Bool) (rest x after : List ℕ) → begins is_in_line rest ≡ true
    → header_from behind rest ≡ Ok (x, after) → HeadersLoop bytes lines behind rest
    → HeadersLoop bytes (lines ++ x ∷ []) true after × (length after < length rest)
header_more bytes lines behind rest x after on e l =
    loop_more (λ s. Unit {0}) is_in_line has_header Header (λ s. Message) header_from (λ s rest. message_from rest) headers_star _ lines behind rest x after on e l

-- the encoding and the message, by what was read of them
abbrev told : Result (List (List ℕ) × List ℕ) ℕ → Result (Option (List ℕ) × List ℕ) ℕ
told (Ok p) = Ok (encoding_of p.0, p.1)
told (Err e) = Err e

abbrev told_behind : List (List ℕ) → Result (List ℕ) ℕ → Result (Option (List ℕ) × List ℕ) ℕ
told_behind lines (Ok m) = Ok (encoding_of lines, m)
told_behind lines (Err e) = Err e

after_all : (lines : List (List ℕ)) (r : Result (List ℕ) ℕ) → told (with_front lines (with_none r)) ≡ told_behind lines r
after_all lines (Ok m) = ap (λ (ls : List (List ℕ)). Ok (encoding_of ls, m)) (append-nil lines)
after_all lines (Err e) = refl

tail_is : (bytes : List ℕ) → tail_from bytes ≡ told (headers_from bytes)
unfolding tail_from
tail_is bytes = at (headers_from bytes)
  where
    at : (r : Result (List (List ℕ) × List ℕ) ℕ) → (r >>= λ p. Ok (encoding_of p.0, p.1)) ≡ told r
    at (Ok p) = refl
    at (Err e) = refl

pub header_fails : (bytes : List ℕ) (lines : List (List ℕ)) (behind : Bool) (rest : List ℕ) (d : ReadError) → begins is_in_line rest ≡ true
    → Fails d (header_from behind rest) → HeadersLoop bytes lines behind rest → Fails d (tail_from bytes)
unfolding headers_from
header_fails bytes lines behind rest errors.Memory on e l = tt
header_fails bytes lines behind rest (errors.Stopped n) on e l =
    tail_is bytes ∙ ap told (loop_err (λ s. Unit {0}) is_in_line has_header Header (λ s. Message) header_from (λ s rest. message_from rest) headers_star _ lines behind rest (errors.Stopped n) on e l)

headers_last : (bytes : List ℕ) (lines : List (List ℕ)) (behind : Bool) (rest : List ℕ) → begins is_in_line rest ≡ false
    → HeadersLoop bytes lines behind rest → tail_from bytes ≡ told_behind lines (message_from rest)
unfolding headers_from
headers_last bytes lines behind rest off l =
    tail_is bytes ∙ ap told (loop_last (λ s. Unit {0}) is_in_line has_header Header (λ s. Message) header_from (λ s rest. message_from rest) headers_star _ lines behind rest off l) ∙ after_all lines (message_from rest)

message_is : (rest m : List ℕ) → literal_at (10 ∷ []) rest ≡ Ok (tt, m) → message_from rest ≡ Ok m
unfolding message_from
message_is rest m e = ap (λ (r : Result (Unit {0} × List ℕ) ℕ). r >>= λ x. Ok x.1) e

message_stops : (rest : List ℕ) (n : ℕ) → literal_at (10 ∷ []) rest ≡ Err n → message_from rest ≡ Err n
unfolding message_from
message_stops rest n e = ap (λ (r : Result (Unit {0} × List ℕ) ℕ). r >>= λ x. Ok x.1) e

pub tail_ok : (bytes : List ℕ) (lines : List (List ℕ)) (behind : Bool) (rest m : List ℕ) (encoding : Option (List ℕ)) → begins is_in_line rest ≡ false
    → HeadersLoop bytes lines behind rest → literal_at (10 ∷ []) rest ≡ Ok (tt, m) → encoding_of lines ≡ encoding → tail_from bytes ≡ Ok (encoding, m)
tail_ok bytes lines behind rest m encoding off l e is =
    headers_last bytes lines behind rest off l ∙ ap (told_behind lines) (message_is rest m e) ∙ ap (λ (o : Option (List ℕ)). Ok (o, m)) is

pub tail_fails : (bytes : List ℕ) (lines : List (List ℕ)) (behind : Bool) (rest : List ℕ) (d : ReadError) → begins is_in_line rest ≡ false
    → HeadersLoop bytes lines behind rest → Fails d (literal_at (10 ∷ []) rest) → Fails d (tail_from bytes)
tail_fails bytes lines behind rest errors.Memory off l e = tt
tail_fails bytes lines behind rest (errors.Stopped n) off l e =
    headers_last bytes lines behind rest off l ∙ ap (told_behind lines) (message_stops rest n e)

-- ---- the parents

abbrev pub ParentsLoop : List ℕ → List ℕ → List (List ℕ) → List ℕ → Type 0
ParentsLoop tree bytes ids rest =
    Loop (λ s. Unit {0}) is_p added (λ s. ParentLine) (People tree) (λ s. parent_line_from) (people_from tree) (parents_star tree)
    (star_at is_p added (λ s. parent_line_from) (people_from tree) (length bytes) [] bytes) ids ids rest

pub parent_more : (tree bytes : List ℕ) (ids : List (List ℕ)) (rest x after : List ℕ) → begins is_p rest ≡ true
    → parent_line_from rest ≡ Ok (x, after) → ParentsLoop tree bytes ids rest
    → ParentsLoop tree bytes (ids ++ x ∷ []) after × (length after < length rest)
parent_more tree bytes ids rest x after on e l =
    loop_more (λ s. Unit {0}) is_p added (λ s. ParentLine) (People tree) (λ s. parent_line_from) (people_from tree) (parents_star tree) _ ids ids rest x after on e l

pub parent_fails : (tree bytes : List ℕ) (ids : List (List ℕ)) (rest : List ℕ) (d : ReadError) → begins is_p rest ≡ true
    → Fails d (parent_line_from rest) → ParentsLoop tree bytes ids rest → Fails d (parents_from tree bytes)
unfolding parents_from
parent_fails tree bytes ids rest errors.Memory on e l = tt
parent_fails tree bytes ids rest (errors.Stopped n) on e l =
    ap (λ (r : Result (List (List ℕ) × Commit) ℕ). r >>= λ p. Ok p.1) (loop_err (λ s. Unit {0}) is_p added (λ s. ParentLine) (People tree) (λ s. parent_line_from) (people_from tree) (parents_star tree) _ ids ids rest (errors.Stopped n) on e l)

second_of : (ids : List (List ℕ)) (r : Result Commit ℕ) → (with_front ids (with_none r) >>= λ p. Ok p.1) ≡ r
second_of ids (Ok c) = refl
second_of ids (Err e) = refl

pub parents_last : (tree bytes : List ℕ) (ids : List (List ℕ)) (rest : List ℕ) → begins is_p rest ≡ false → ParentsLoop tree bytes ids rest
    → parents_from tree bytes ≡ people_from tree ids rest
unfolding parents_from
parents_last tree bytes ids rest off l =
    ap (λ (r : Result (List (List ℕ) × Commit) ℕ). r >>= λ p. Ok p.1) (loop_last (λ s. Unit {0}) is_p added (λ s. ParentLine) (People tree) (λ s. parent_line_from) (people_from tree) (parents_star tree) _ ids ids rest off l) ∙ second_of ids (people_from tree ids rest)
