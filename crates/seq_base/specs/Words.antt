-- What a list of bytes stands for.
use Rattle.std.specs.Prelude.{ℕ, List}

-- the bytes of an object's id
abbrev pub Id : Type 0
Id = List ℕ

-- where a tree, an index or a store has a file
abbrev pub Path : Type 0
Path = List ℕ

-- the name of a ref, or of a file in its folder
abbrev pub Name : Type 0
Name = List ℕ

-- what is written, and is yet to be read
abbrev pub Text : Type 0
Text = List ℕ
