-- A text line by line, as the loops over it meet it: what it is refused for, and the cells that it fills. Assumes nothing.
use Prim.Native.Nat.{ℕ, suc, ◌+◌, ◌*◌, ◌-◌, ◌≤◌, ◌<◌}
use mathlib.Core.Path.{◌≡◌, refl, sym, ap, ◌∙◌}
use mathlib.Core.Bool.{Bool, true, false, cond, true≢false}
use mathlib.Core.List.{List, [], ◌∷◌, ◌++◌, append_assoc, append-nil}
use native.Mathlib.Nat.{zero-add}
use native.Mathlib.Numerals.{add-one}
use native.Mathlib.Omega.{arith}
use lib.Dec.{leb}
use lib.Seq.{take_at, drop_at}
use borrow.Rule.Slice.PartMut.{put_mid}
use lib.ListN.{length, take, drop, replicate, length-append}
use borrow.Author.Tests.{le-leb, lt-leb}
use Rattle.model.specs.declared.Parameters.{Parameters}
use Rattle.model.specs.Load.{LoadReply}
use Rattle.model.specs.Load.{Accepted, Refused}
use Rattle.model.specs.Words.{Cell, cell_words}
use Rattle.model.specs.Load.{fine, fault, lines, line_of, lines_reply, words_of, lines_words, text_reply, image_of}
use Rattle.loader.specs.Passes.{Ready, Filled}

-- THE REPLY
-- What is replied to the lines from number i on, of n in all, all before them being right.
abbrev reply_of : Parameters → (n i : ℕ) → List (List ℕ) → LoadReply
reply_of p n i ls = cond (leb n p.t) (lines_reply p i ls) (Refused 8 0)

module _ (p : Parameters) (n i : ℕ) where
  reply-end : n ≤ p.t → reply_of p n i [] ≡ Accepted i
  unfolding lines_reply
  reply-end h = simp (le-leb n p.t h)

  module _ (l : List ℕ) (ls : List (List ℕ)) where
    reply_many : p.t < n → reply_of p n i (l ∷ ls) ≡ Refused 8 0
    reply_many h = simp (lt-leb n p.t h)

    reply-fine : (c : Cell) → line_of p l ≡ fine c → reply_of p n i (l ∷ ls) ≡ reply_of p n (i + 1) ls
    unfolding lines_reply
    reply-fine c e = rw (add-one i) (simp (lines_reply, e))

    reply-fault : (k : ℕ) → line_of p l ≡ fault k → reply_of p n i (l ∷ ls) ≡ cond (leb n p.t) (Refused k i) (Refused 8 0)
    unfolding lines_reply
    reply-fault k e = simp (lines_reply, e)

-- THE IMAGE
-- What a pass has made of the image with i cells, whose words are `done`.
abbrev Held : (write : Bool) → Parameters → (old image done : List ℕ) (i : ℕ) → Type 0
Held true p old image done i = image ≡ done ++ replicate (4 * p.t - 4 * i) 0
Held false p old image done i = image ≡ old

held_first : (write : Bool) (p : Parameters) (image : List ℕ) → Ready write p image → Held write p image image [] 0
held_first true p image h = let e : 4 * p.t ≡ 4 * p.t - 4 * 0 = omega arith in h ∙ ap (λ (k : ℕ). replicate k 0) e
held_first false p image h = refl

-- THE LOOP
-- Line i is the first of those that are left: the lines before it are right, and `done` are their words.
pub record LinesInvariant (write : Bool) (p : Parameters) (text old image : List ℕ) (left : List (List ℕ)) (i : ℕ) : Type 0 where
  pub done : List ℕ
  pub few : i ≤ p.t
  pub size : length done ≡ 4 * i
  pub held : Held write p old image done i
  pub reply : text_reply p text ≡ reply_of p (length (lines text)) i left
  pub words : lines_words p (lines text) ≡ done ++ lines_words p left
  pub count : length (lines text) ≡ i + length left

module _ (write : Bool) (p : Parameters) (text old : List ℕ) where
  pub at-start : {left : List (List ℕ)} → left ≡ lines text → Ready write p old → LinesInvariant write p text old old left 0
  unfolding text_reply
  at-start e h =
      record {
        done = [];
        few = omega arith;
        size = refl;
        held = held_first write p old h;
        reply = rw e refl;
        words = rw e refl;
        count = rw e (sym (zero-add (length (lines text))));
      }

  module _ {image : List ℕ} {left : List (List ℕ)} {i : ℕ} (s : LinesInvariant write p text old image left i) where
    module _ (e : left ≡ []) where
      pub all_read : Accepted i ≡ text_reply p text
      all_read = sym (s.reply ∙ ap (reply_of p (length (lines text)) i) e ∙ reply-end p _ i (omega (arith, s.few, s.count, ap length e)))

      pub all_held : Filled write p text old image (Accepted i)
      unfolding lines_words image_of
      all_held = go write s.held
        where
          f : i ≤ p.t
          f = s.few

          k : length (lines text) ≡ i
          k = s.count ∙ omega (arith, ap length e)

          ws : lines_words p (lines text) ≡ s.done
          ws = s.words ∙ ap (λ (ls : List (List ℕ)). s.done ++ lines_words p ls) e ∙ append-nil s.done

          z : 4 * p.t - 4 * i ≡ 4 * (p.t - i)
          z = omega (arith, f)

          go : (w : Bool) → Held w p old image s.done i → Filled w p text old image (Accepted i)
          go true h = h ∙ ap (λ (m : ℕ). s.done ++ replicate m 0) z ∙ rw (ws, k) refl
          go false h = h

    module _ {line : List ℕ} {ls : List (List ℕ)} (n : left ≡ line ∷ ls) where
      pub too_many : i ≡ p.t → text_reply p text ≡ Refused 8 0
      too_many e = s.reply ∙ ap (reply_of p (length (lines text)) i) n ∙ reply_many p _ i line ls (omega (arith, s.count, ap length n))

      pub at-fault : (k : ℕ) → line_of p line ≡ fault k → text_reply p text ≡ cond (leb (length (lines text)) p.t) (Refused k i) (Refused 8 0)
      at-fault k e = s.reply ∙ ap (reply_of p (length (lines text)) i) n ∙ reply-fault p _ i line ls k e

      module _ (cell : Cell) (l : i < p.t) (e : line_of p line ≡ fine cell) where
        abbrev ws : List ℕ
        ws = cell_words cell

        at-cell : {new : List ℕ} → Held write p old new (s.done ++ ws) (i + 1) → LinesInvariant write p text old new ls (i + 1)
        unfolding lines_words
        at-cell held =
            record {
              done = s.done ++ ws;
              few = omega arith;
              size = length-append s.done ws ∙ omega (arith, s.size);
              held = held;
              reply = s.reply ∙ ap (reply_of p (length (lines text)) i) n ∙ reply-fine p _ i line ls cell e;
              words =
                  s.words
                  ∙ ap (λ (xs : List (List ℕ)). s.done ++ lines_words p xs) n
                  ∙ ap (λ (xs : List ℕ). s.done ++ (xs ++ lines_words p ls)) (ap words_of e)
                  ∙ sym (append_assoc s.done ws (lines_words p ls));
              count = s.count ∙ omega (arith, ap length n);
            }

        pub cell-written : write ≡ true → LinesInvariant write p text old (put_mid (4 * i) 4 image ws) ls (i + 1)
        cell-written q = at-cell (go write q s.held)
          where
            m : ℕ
            m = 4 * p.t - 4 * (i + 1)

            z : 4 * p.t - 4 * i ≡ suc (suc (suc (suc m)))
            z = omega (arith, l)

            go : (w : Bool) → w ≡ true → Held w p old image s.done i → Held w p old (put_mid (4 * i) 4 image ws) (s.done ++ ws) (i + 1)
            go true q h =
                let zeros = h ∙ ap (λ (k : ℕ). s.done ++ replicate k 0) z in
                let front : take (4 * i) image ≡ s.done = ap (take (4 * i)) zeros ∙ take_at s.done _ (4 * i) s.size in
                let back : drop (4 * i) image ≡ 0 ∷ 0 ∷ 0 ∷ 0 ∷ replicate m 0 = ap (drop (4 * i)) zeros ∙ drop_at s.done _ (4 * i) s.size in
                rw (front, back) (sym (append_assoc s.done ws (replicate m 0)))
            go false q h = absurd (true≢false (sym q))

        pub cell-passed : write ≡ false → LinesInvariant write p text old image ls (i + 1)
        cell-passed q = at-cell (go write q s.held)
          where
            go : (w : Bool) → w ≡ false → Held w p old image s.done i → Held w p old image (s.done ++ ws) (i + 1)
            go true q h = absurd (true≢false q)
            go false q h = h
