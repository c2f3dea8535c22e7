-- Laws of levels and histories: taking back what was put on gives the whole value again.
use Rattle.std.proofs.Common.{◌≡◌, ◌∙◌, ◌+◌, ◌-◌, ◌≤◌, List, [], ◌∷◌, ◌++◌, length, take, refl, ap, arith, length-append}
use Rattle.std.proofs.Math.Seq.{take-append_seam}
use Rattle.hive_model.specs.declared.places.Move.{Move}
use Rattle.hive_model.specs.Histories.{History, position, with_move, without_last}
use Rattle.hive_model.specs.Stack.{Levels, with_level, without_level}
use Rattle.hive_model.specs.Positions.{Position, opening}
use Rattle.hive_model.specs.Games.{after, replay}

pub take-all_but_last : {A : Type 0} (xs : List A) (x : A) → take (length (xs ++ x ∷ []) - 1) (xs ++ x ∷ []) ≡ xs
take-all_but_last xs x =
    let e : length (xs ++ x ∷ []) - 1 ≡ length xs = omega (arith, length-append xs (x ∷ [])) in
    rw e (take-append_seam xs (x ∷ []))

pub replay-append : (p : Position) (xs : List Move) (m : Move) → replay p (xs ++ m ∷ []) ≡ after (replay p xs) m
replay-append p [] m = refl
replay-append p (x ∷ xs) m = replay-append (after p x) xs m

pub position-with_move : (g : History) (m : Move) → position (with_move g m) ≡ after (position g) m
position-with_move g m = replay-append (opening g.game_type) g.made m

-- a level that was added and dropped leaves the stack unchanged
pub level-dropped : (old listed tried later : Levels) (ms : List Move) → 1 ≤ old.free → listed ≡ with_level old ms → tried ≡ listed → later ≡ without_level tried → later ≡ old
level-dropped old listed tried later ms room put same dropped =
    let lists : take (length (old.lists ++ ms ∷ []) - 1) (old.lists ++ ms ∷ []) ≡ old.lists = take-all_but_last old.lists ms in
    let free : (old.free - 1) + 1 ≡ old.free = omega (arith, room) in
    let there : without_level (with_level old ms) ≡ old = λ i. record { lists = lists i; free = free i } in
    dropped ∙ ap (λ (s : Levels). without_level s) (same ∙ put) ∙ there

-- a move that was played and undone leaves the game unchanged
pub move-undone : (start played tried later : History) (m : Move) → 1 ≤ start.spare → played ≡ with_move start m → tried ≡ played → later ≡ without_last tried → later ≡ start
move-undone start played tried later m room moved same back =
    let made : take (length (start.made ++ m ∷ []) - 1) (start.made ++ m ∷ []) ≡ start.made = take-all_but_last start.made m in
    let spare : (start.spare - 1) + 1 ≡ start.spare = omega (arith, room) in
    let there : without_last (with_move start m) ≡ start = λ i. record { game_type = start.game_type; made = made i; spare = spare i } in
    back ∙ ap (λ (c : History). without_last c) (same ∙ moved) ∙ there

-- after a move there is a move to undo
pub move-made : (start played tried : History) (m : Move) → played ≡ with_move start m → tried ≡ played → 1 ≤ length tried.made
move-made start played tried m moved same =
    let e : length tried.made ≡ length (start.made ++ m ∷ []) = ap (λ (c : History). length c.made) (same ∙ moved) in
    omega (arith, e, length-append start.made (m ∷ []))
