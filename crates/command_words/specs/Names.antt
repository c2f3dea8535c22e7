-- The commands, by the words that name them.
use Rattle.std.specs.Prelude.{Bool, true, false, List, [], ◌∷◌, ℕ, Option, Some, codes}
use Rattle.move_text.specs.Tables.{named_by}
use Rattle.command_words.specs.declared.name.Name.{Name}
use Rattle.command_words.specs.declared.name.Name.TheVariants.{Uhp, Replay, Count, Grow, Certify, Check, Solve, Verify, Match, Cup, Book, Migrate, Audit, Tournament}

-- the word that names a command
abbrev pub name_text : Name → List ℕ
name_text Uhp = codes "uhp"
name_text Replay = codes "replay"
name_text Count = codes "count"
name_text Grow = codes "grow"
name_text Certify = codes "certify"
name_text Check = codes "check"
name_text Solve = codes "solve"
name_text Verify = codes "verify"
name_text Match = codes "match"
name_text Cup = codes "cup"
name_text Book = codes "book"
name_text Migrate = codes "migrate"
name_text Audit = codes "audit"
name_text Tournament = codes "tournament"

abbrev pub names : List Name
names = Uhp ∷ Replay ∷ Count ∷ Grow ∷ Certify ∷ Check ∷ Solve ∷ Verify ∷ Match ∷ Cup ∷ Book
    ∷ Migrate ∷ Audit ∷ Tournament ∷ []

-- the command that a word names
abbrev pub name_at : List ℕ → Option Name
name_at = named_by name_text names

-- the command that the first word names, or `uhp` if there is no word
abbrev pub named : List (List ℕ) → Option Name
named [] = Some Uhp
named (word ∷ words) = name_at word

-- The command takes an option.
abbrev pub takes_option : Name → Bool
takes_option Uhp = false
takes_option Replay = true
takes_option Count = true
takes_option Grow = true
takes_option Certify = true
takes_option Check = false
takes_option Solve = true
takes_option Verify = false
takes_option Match = true
takes_option Cup = true
takes_option Book = false
takes_option Migrate = false
takes_option Audit = true
takes_option Tournament = true
