-- A commit, with its hooks and its editor (git-commit(1); githooks(5)).
use Rattle.std.specs.Prelude.{◌≡◌, true, false, ◌||◌, List, Option, Some, None}
use Rattle.std.specs.List.{list_all}
use Rattle.config_text.specs.declared.config.Setting.{Setting}
use Rattle.ident_text.specs.Idents.{IsIdentText, IsIdentValue, ident_text}
use Rattle.ident_text.specs.declared.ident.Ident.{Ident}
use Rattle.message_text.specs.Paragraphs.{subject}
use Rattle.object_text.specs.Commits.{IsEncoding, commit_text, is_in_line}
use Rattle.object_text.specs.declared.commit.Commit.{Commit as CommitFields}
use Rattle.object_text.specs.declared.object.Kind.TheVariants.{Commit}
use Rattle.objects.specs.Puts.{object_of, object_put}
use Rattle.seq_base.specs.Words.{Id, Text}
use Rattle.seq_outside.specs.Doing.{◌>>=◌, gives, makes, saying, ticks, within}
use Rattle.seq_outside.specs.declared.env.Env.{Env}
use Rattle.commit_maker.specs.Committers.{committer_at}
use Rattle.commit_maker.specs.Messages.{Committing, editor_at, message_does}
use Rattle.commit_maker.specs.declared.making.Made.{Made}
use Rattle.commit_maker.specs.declared.making.Making.{Making}
use Rattle.commit_maker.specs.declared.stop.MakeStop.TheVariants.{Lacks}

-- ---- the object

-- with no author it is the committer
abbrev pub author_of : Option Ident → Ident → Ident
author_of None who = who
author_of (Some author) who = author

abbrev pub commit_of : Making → Ident → Text → CommitFields
commit_of making who message = record {
  tree = making.tree;
  parents = making.parents;
  author = ident_text (author_of making.author who);
  committer = ident_text who;
  encoding = making.encoding;
  message = message;
}

abbrev pub IsAuthor : Option Ident → Type 0
IsAuthor None = Unit {0}
IsAuthor (Some author) = IsIdentValue author

-- such a commit has a text
pub record CanBeMade (making : Making) : Type 0 where
  pub author : IsAuthor making.author
  pub encoding : IsEncoding making.encoding

-- what is told of a commit that was made can stand in a line of a log: an ident, and a subject without a line feed
pub record IsMade (made : Made) : Type 0 where
  pub ident : IsIdentText made.ident
  pub subject : list_all is_in_line made.subject ≡ true

abbrev pub made_of : Id → CommitFields → Made
made_of id commit = record { id = id; ident = commit.committer; subject = subject commit.message }

-- a commit is put; no ref is changed
unfoldable pub commit_put : CommitFields → Committing Made
commit_put commit = do
  id ← saying Lacks (makes (object_put (object_of Commit (commit_text commit))))
  gives (made_of id commit)

-- ---- the whole

-- The message is shown to hooks and editor; then the moment is taken, and the commit is put.
unfoldable pub commit_does : List Setting → Env → Making → Committing Made
commit_does settings env making = do
  message ← message_does (editor_at settings env making.edit) making
  secs ← ticks
  commit_put (commit_of making (committer_at settings env secs) message)

-- The same beside what has run before: at its place it tells whether a hook or an editor has ended since index and files were last looked at.
unfoldable pub committed : List Setting → Env → Making → Committing Made
committed settings env making = within (λ unseen. false) (λ ran unseen. unseen || ran) (commit_does settings env making)
