-- The programs of a cup.
use Rattle.std.specs.Prelude.{ℕ, List}

-- a program of a cup: the text that names it, and its words, each by its bytes
pub record Engine : Type 0 where
  pub text : List ℕ
  pub words : List (List ℕ)
