-- Lists of workers that grow by one.
use Rattle.std.proofs.Common.{◌≡◌, ℕ, zero, ◌+◌, ◌≤◌, List, [], ◌∷◌, ◌++◌, length, map, get_or, take, length-append, ap, subst, sym, ◌∙◌, arith}
use Rattle.std.proofs.lemmas.List.{length-map, get_or-map, take_at}
use Rattle.std.proofs.lemmas.List.Elements.{All-map, All-pop, All-push, All-same}
use Rattle.std.specs.Prelude.{Some}
use Rattle.std.specs.List.{All}
use Rattle.hive_model.specs.declared.pieces.GameType.{GameType}
use Rattle.hive_model.specs.declared.places.Move.{Move}
use Rattle.hive_model.specs.Histories.{History}
use Rattle.hive_model.specs.Games.{replay}
use Rattle.hive_model.specs.Positions.{opening}
use Rattle.root_share.specs.Answer.{IsGameOf, root_of}

pub all-pushed : {A : Type 0} (xs ys : List A) (x : A) → ys ≡ xs ++ x ∷ [] → (P : A → Type 0) → All P xs → P x → All P ys
all-pushed xs ys x e P all here = rw e (All-push P xs x all here)

pub length-pushed : {A : Type 0} (xs ys : List A) (x : A) → ys ≡ xs ++ x ∷ [] → (n : ℕ) → length xs ≡ n → length ys ≡ n + 1
length-pushed xs ys x e n long = let more = length-append xs (x ∷ []) in rw e (omega (arith, more, long))

-- workers that have games of this type and these moves are at the root that these lead to
pub root-is : {A : Type 0} (t : GameType) (ms : List Move) (room : ℕ) (ws : List A) (game : A → History) → 1 ≤ length ws → All (λ w. IsGameOf t ms room (game w)) ws
    → root_of (map game ws) ≡ replay (opening t) ms
root-is t ms room [] game some all = absurd (omega (arith, some))
root-is t ms room (w ∷ ws) game some all =
    let first : IsGameOf t ms room (game w) = all zero w (omega arith) in
    λ j. replay (opening (first.game_type j)) (first.made j)

-- what holds of each image holds of what it is the image of
pub all-unmapped : {A B : Type 0} (f : A → B) (P : B → Type 0) (xs : List A) → All P (map f xs) → All (λ x. P (f x)) xs
all-unmapped f P xs all k d h = let long = length-map xs f in subst P (get_or-map f xs k d (f d) h) (all k (f d) (omega (arith, h, long)))

-- the rest of a list after its last element was taken, and that element
pub all-popped : {A : Type 0} (xs ys : List A) (x : A) → xs ≡ ys ++ x ∷ [] → (P : A → Type 0) → All P xs → All P ys × P x
all-popped xs ys x e P all = All-pop P xs ys (Some x) e all

-- what is prepared for 64 plies is prepared for each depth up to 64
pub all-deep : {A : Type 0} (xs : List A) (f : A → ℕ) (depth : ℕ) → depth ≤ 64 → All (λ x. f x ≡ 64) xs → All (λ x. depth ≤ f x) xs
all-deep xs f depth deep all k d h = let here : f (get_or xs k d) ≡ 64 = all k d h in omega (arith, here, deep)

-- the searchers of workers are prepared if they are as before, also as the list of workers lent in
-- between
pub back-prepared : {A : Type 0} (before now rest : List A) (f : A → ℕ) (n : ℕ) → map f now ≡ map f before → length before ≡ n → All (λ x. f x ≡ 64) before
    → All (λ x. f x ≡ 64) (take n (now ++ rest))
back-prepared before now rest f n same long all =
    let many : length now ≡ n = sym (length-map now f) ∙ ap length same ∙ length-map before f ∙ long in
    let images = All-same (λ m. m ≡ 64) (map f now) (map f before) same (All-map (λ m. m ≡ 64) f before all) in
    All-same (λ x. f x ≡ 64) (take n (now ++ rest)) now (take_at now rest n many) (all-unmapped f (λ m. m ≡ 64) now images)

-- and their number is the same
pub back-many : {A : Type 0} (before now rest : List A) (f : A → ℕ) (n many : ℕ) → map f now ≡ map f before → length before ≡ n → length before ≡ many → length (take n (now ++ rest)) ≡ many
back-many before now rest f n many same long all =
    let here : length now ≡ n = sym (length-map now f) ∙ ap length same ∙ length-map before f ∙ long in
    ap length (take_at now rest n here) ∙ here ∙ sym long ∙ all
