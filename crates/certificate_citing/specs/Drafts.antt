-- What is added to a draft.
use Rattle.std.specs.Prelude.{ℕ, ◌+◌, ◌++◌}
use Rattle.certificate_walks.specs.Follows.{held}
use Rattle.certificate_text.specs.Text.{index_line}
use Rattle.certificate_citing.specs.declared.draft.Draft.{Draft}
use Rattle.certificate_citing.specs.TokenText.{cite_line}

-- an index was taken, and is written
abbrev pub with_index : ℕ → Draft → Draft
with_index i d =
    record { taken = held (d.taken + 1); lemmas = d.lemmas; text = d.text ++ index_line i }

-- a citation is written
abbrev pub with_cite : ℕ → Draft → Draft
with_cite n d = record { taken = d.taken; lemmas = d.lemmas; text = d.text ++ cite_line n }
