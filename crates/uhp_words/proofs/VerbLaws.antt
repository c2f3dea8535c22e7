-- A first word names a command exactly if it is the word of the command.
use Rattle.std.proofs.Common.{◌≡◌, ◌≢◌, ℕ, List, [], refl}
use Rattle.std.specs.Prelude.{Some}
use Rattle.uhp_words.specs.declared.verb.Verb.{Verb}
use Rattle.uhp_words.specs.declared.verb.Verb.TheVariants.{Info, NewGame, Play, Pass, ValidMoves, BestMove, Undo, Options, Exit}
use Rattle.move_text.proofs.TableLaws.{name_is}
use Rattle.uhp_words.specs.Verbs.{verb_text, verbs, verb_at}

pub verb_found : (word : List ℕ) (v : Verb) → verb_at word ≡ Some v → word ≡ verb_text v
unfolding verb_at
verb_found = name_is verb_text verbs

pub verb_again : (v : Verb) → verb_at (verb_text v) ≡ Some v
unfolding verb_at
verb_again Info = refl
verb_again NewGame = refl
verb_again Play = refl
verb_again Pass = refl
verb_again ValidMoves = refl
verb_again BestMove = refl
verb_again Undo = refl
verb_again Options = refl
verb_again Exit = refl

pub verb_not_empty : (v : Verb) → verb_text v ≢ []
verb_not_empty Info e = cc
verb_not_empty NewGame e = cc
verb_not_empty Play e = cc
verb_not_empty Pass e = cc
verb_not_empty ValidMoves e = cc
verb_not_empty BestMove e = cc
verb_not_empty Undo e = cc
verb_not_empty Options e = cc
verb_not_empty Exit e = cc
