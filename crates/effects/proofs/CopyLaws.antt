-- Values stored block by block over the front of a list. Assumes nothing.
use Rattle.std.proofs.Common.{◌≡◌, ℕ, ◌+◌, ◌-◌, ◌≤◌, List, [], ◌++◌, length, take, drop, ℤ, sym, ap, ◌∙◌, append_assoc, append-nil, le_refl, arith, length-drop, drop_of_length-le, length-take-le, drop-drop, take_at, take-append-drop, drop_at}
use borrow.Author.Rules.{part_to_end}
use borrow.Rule.Slice.PartMut.{put_mid}
use Rattle.effects.specs.Effects.{output_after}

-- The first n of xs, and then the others behind them.
pub block-then-rest : (xs ys : List ℤ) (n : ℕ) (first part : List ℤ) → n ≤ length xs → length xs ≤ length ys →
    first ≡ output_after (take n xs) ys →
    part ≡ output_after (drop n xs) (take (length first - n) (drop n first)) →
    put_mid n (length first - n) first part ≡ output_after xs ys
block-then-rest xs ys n first part h k e f =
    let size : length (take n xs) ≡ n = length-take-le n xs h in
    let is : first ≡ take n xs ++ drop n ys = e ∙ ap (λ (m : ℕ). take n xs ++ drop m ys) size in
    let front : take n first ≡ take n xs = ap (take n) is ∙ take_at (take n xs) (drop n ys) n size in
    let behind : drop n first ≡ drop n ys = ap (drop n) is ∙ drop_at (take n xs) (drop n ys) n size in
    let none : drop (length first - n) (drop n first) ≡ [] = drop_of_length-le (drop n first) {i = length first - n} (rw length-drop (le_refl _)) in
    let gap : n + (length xs - n) ≡ length xs = omega arith in
    let rest : part ≡ drop n xs ++ drop (length xs) ys =
    f ∙ ap (output_after (drop n xs)) (part_to_end first n ∙ behind)
    ∙ rw length-drop (ap (λ (r : List ℤ). drop n xs ++ r) (drop-drop (length xs - n) n ys ∙ ap (λ (m : ℕ). drop m ys) gap))
    in
    ap (λ (r : List ℤ). take n first ++ (part ++ r)) none
    ∙ ap (λ (r : List ℤ). take n first ++ r) (append-nil part ∙ rest)
    ∙ ap (λ (r : List ℤ). r ++ (drop n xs ++ drop (length xs) ys)) front
    ∙ sym (append_assoc (take n xs) (drop n xs) (drop (length xs) ys))
    ∙ ap (λ (r : List ℤ). r ++ drop (length xs) ys) (take-append-drop n xs)
