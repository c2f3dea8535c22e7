-- The moves are read exactly if the texts denote legal moves.
use Rattle.std.proofs.Common.{◌≡◌, ℕ, ◌+◌, ◌≤◌, ◌<◌, Bool, true, false, List, [], ◌∷◌, ◌++◌, length, Result, Ok, Err, refl, ◌∙◌, ap, subst, arith}
use Rattle.hive_model.specs.declared.places.Move.{Move}
use Rattle.hive_model.specs.Lists.{IsOn}
use Rattle.hive_model.specs.Boards.{StandsWithin}
use Rattle.hive_model.specs.Positions.{Position, IsSound}
use Rattle.hive_model.specs.Legal.{moves}
use Rattle.hive_model.specs.Games.{after, AreLegal}
use Rattle.hive_model.specs.Keys.{KeyParts, key}
use Rattle.hive_model.specs.Strings.{DenoteMoves}
use Rattle.move_text.specs.Moves.{move_of}
use Rattle.move_text.specs.declared.faults.MoveFault.{MoveFault}
use Rattle.move_text.proofs.MoveLaws.{denotes_of, of_denotes}
use Rattle.rule_laws.proofs.Games.{listed_keep}
use Rattle.game_text.specs.declared.faults.GameFault.{GameFault}
use Rattle.game_text.specs.Reading.{prefixed, if_legal, on_move, is_third, may_follow, moves_of}
use Rattle.hive_model.proofs.ListedLaws.{listed_on, on_listed}
use Rattle.game_text.proofs.OpenLaws.{follows, follows_again, AreOpen}

-- the texts denote the moves, each is legal, and none follows a draw by repetition
pub record Reads (r : Bool) (seen : List KeyParts) (p : Position) (xs : List (List ℕ)) (ms : List Move) : Type 0 where
  pub denote : DenoteMoves p xs ms
  pub legal : AreLegal p ms
  pub yet : AreOpen r seen p ms
  pub size : length ms ≡ length xs

pub moves_found : (r : Bool) (seen : List KeyParts) (p : Position) (xs : List (List ℕ)) (n k : ℕ) (ms : List Move) → IsSound p → StandsWithin k p.board → k + length xs ≤ 9000 → moves_of r seen p xs n ≡ Ok ms → Reads r seen p xs ms
unfolding moves_of
moves_found r seen p [] n k ms is within low h = let same : [] ≡ ms = cc in subst (Reads r seen p []) same (record { denote = tt; legal = tt; yet = tt; size = refl })
moves_found r seen p (x ∷ xs) n k ms is within low h = go (move_of p.game_type p.board x) refl h (λ m sound next ok rest e. moves_found r (seen ++ key (after p m) ∷ []) (after p m) xs (n + 1) (k + 1) rest sound next ok e)
  where
    go : (read : Result Move MoveFault) → move_of p.game_type p.board x ≡ read
        → on_move read n (λ m. if_legal (may_follow r seen p m) n (prefixed (m ∷ []) (moves_of r (seen ++ key (after p m) ∷ []) (after p m) xs (n + 1)))) ≡ Ok ms
        → ((m : Move) → IsSound (after p m) → StandsWithin (k + 1) (after p m).board → k + 1 + length xs ≤ 9000 → (rest : List Move) → moves_of r (seen ++ key (after p m) ∷ []) (after p m) xs (n + 1) ≡ Ok rest → Reads r (seen ++ key (after p m) ∷ []) (after p m) xs rest) → Reads r seen p (x ∷ xs) ms
    go (Err fault) e j more = absurd (cc)
    go (Ok m) e j more = legal (may_follow r seen p m) refl j
      where
        rest_of : is_third r seen ≡ false → IsOn (moves p) m → (read : Result (List Move) GameFault) → moves_of r (seen ++ key (after p m) ∷ []) (after p m) xs (n + 1) ≡ read → prefixed (m ∷ []) read ≡ Ok ms → Reads r seen p (x ∷ xs) ms
        rest_of yet on (Err fault) f j = absurd (cc)
        rest_of yet on (Ok rest) f j =
            let same : m ∷ rest ≡ ms = cc in
            let less : k < 9000 = omega (arith, low) in
            let fits : k + 1 + length xs ≤ 9000 = omega (arith, low) in
            let kept = listed_keep p k m is within less on in
            let later = more m kept.0 kept.1 fits rest f in
            let size = later.size in
            let grown : length (m ∷ rest) ≡ length (x ∷ xs) = omega (arith, size) in
            subst (Reads r seen p (x ∷ xs)) same (record { denote = (denotes_of p.game_type p.board x m is.board e, later.denote); legal = (on, later.legal); yet = (yet, later.yet); size = grown })

        legal : (t : Bool) → may_follow r seen p m ≡ t → if_legal t n (prefixed (m ∷ []) (moves_of r (seen ++ key (after p m) ∷ []) (after p m) xs (n + 1))) ≡ Ok ms → Reads r seen p (x ∷ xs) ms
        legal true f j = let both = follows r seen p m f in rest_of both.0 (listed_on p m both.1) (moves_of r (seen ++ key (after p m) ∷ []) (after p m) xs (n + 1)) refl j
        legal false f j = absurd (cc)

pub moves_again : (r : Bool) (seen : List KeyParts) (p : Position) (xs : List (List ℕ)) (n : ℕ) (ms : List Move) → DenoteMoves p xs ms → AreLegal p ms → AreOpen r seen p ms → moves_of r seen p xs n ≡ Ok ms
unfolding moves_of
moves_again r seen p [] n [] d l o = refl
moves_again r seen p [] n (m ∷ ms) d l o = absurd d
moves_again r seen p (x ∷ xs) n [] d l o = absurd d
moves_again r seen p (x ∷ xs) n (m ∷ ms) d l o =
    ap (λ z. on_move z n (λ m. if_legal (may_follow r seen p m) n (prefixed (m ∷ []) (moves_of r (seen ++ key (after p m) ∷ []) (after p m) xs (n + 1))))) (of_denotes p.game_type p.board x m d.0)
    ∙ ap (λ t. if_legal t n (prefixed (m ∷ []) (moves_of r (seen ++ key (after p m) ∷ []) (after p m) xs (n + 1)))) (follows_again r seen p m o.0 (on_listed p m l.0))
    ∙ ap (prefixed (m ∷ [])) (moves_again r (seen ++ key (after p m) ∷ []) (after p m) xs (n + 1) ms d.1 l.1 o.1)

pub denoted_size : (p : Position) (xs : List (List ℕ)) (ms : List Move) → DenoteMoves p xs ms → length ms ≡ length xs
denoted_size p [] [] d = refl
denoted_size p [] (m ∷ ms) d = absurd d
denoted_size p (x ∷ xs) [] d = absurd d
denoted_size p (x ∷ xs) (m ∷ ms) d = let rest = denoted_size (after p m) xs ms d.1 in omega (arith, rest)
