-- What the lines of a list make with.
use Rattle.commit_maker.specs.Commits.{committed}
use Rattle.content_merge.specs.Merging.{merge_does}
use Rattle.line_steps.specs.Layers.{Commits, Makers, Merges}

-- the merge of a line, by the configuration of the turn
abbrev pub merges_by : Merges
merges_by setting sides = merge_does setting.config sides.base sides.ours sides.theirs

-- a commit, by the configuration and the environment of the turn
abbrev pub commits_by : Commits
commits_by setting making = committed setting.config setting.env making

abbrev pub makers : Makers
makers = record { merges = merges_by; commits = commits_by }
