-- SHR between B-1 and S-1: raised, lowered and read. Assumes nothing.
use Prim.Native.Nat.{ℕ, zero, suc, ◌≤◌}
use mathlib.Core.Path.{◌≡◌, refl}
use mathlib.Core.Bool.{true, false}
use native.Mathlib.Omega.{arith}
use lib.IntN.{ℤ, pos, negsuc, suc_ℤ, pred_ℤ, ◌-ℤ◌}
use lib.Signed.{mag, le_z}
use borrow.Author.Tests.{leb-true, le-leb, eqb-false}
use Rattle.model.specs.Parameters.{eq_z}
use Rattle.std.proofs.Common.{rules}

pub raised-low : (a z : ℤ) → le_z a z ≡ true → le_z a (suc_ℤ z) ≡ true
raised-low (pos a) (pos z) h = let k = leb-true a z h in le-leb a (suc z) (omega arith)
raised-low (pos a) (negsuc z) h = cc
raised-low (negsuc a) (pos z) h = refl
raised-low (negsuc a) (negsuc zero) h = refl
raised-low (negsuc a) (negsuc (suc z)) h = let k = leb-true (suc z) a h in le-leb z a (omega arith)

pub raised-high : (s : ℕ) (z : ℤ) → le_z z (pos s -ℤ pos 1) ≡ true → eq_z (suc_ℤ z) (pos s) ≡ false → le_z (suc_ℤ z) (pos s -ℤ pos 1) ≡ true
raised-high s z h e = search rules

pub lowered-high : (z b : ℤ) → le_z z b ≡ true → le_z (pred_ℤ z) b ≡ true
lowered-high (pos zero) (pos b) h = refl
lowered-high (pos (suc z)) (pos b) h = let k = leb-true (suc z) b h in le-leb z b (omega arith)
lowered-high (pos zero) (negsuc b) h = cc
lowered-high (pos (suc z)) (negsuc b) h = h
lowered-high (negsuc z) (pos b) h = refl
lowered-high (negsuc z) (negsuc b) h = let k = leb-true b z h in le-leb b (suc z) (omega arith)

pub lowered-low : (a z : ℤ) → le_z a z ≡ true → eq_z z a ≡ false → le_z a (pred_ℤ z) ≡ true
lowered-low (pos a) (pos zero) h e =
    let k = leb-true a 0 h in
    let d = eqb-false 0 a e in
    absurd (omega arith)
lowered-low (pos a) (pos (suc z)) h e =
    let k = leb-true a (suc z) h in
    let d = eqb-false (suc z) a e in
    le-leb a z (omega arith)
lowered-low (pos a) (negsuc z) h e = h
lowered-low (negsuc a) (pos zero) h e = le-leb 0 a (omega arith)
lowered-low (negsuc a) (pos (suc z)) h e = refl
lowered-low (negsuc a) (negsuc z) h e =
    let k = leb-true z a h in
    let d = eqb-false z a e in
    le-leb (suc z) a (omega arith)

pub head-mag : (b s : ℕ) (z : ℤ) → le_z (pos b -ℤ pos 1) z ≡ true → le_z z (pos s -ℤ pos 1) ≡ true → mag z ≤ s
head-mag b s z h k = search rules

pub heads : (b s : ℕ) → b ≤ s → le_z (pos b -ℤ pos 1) (pos s -ℤ pos 1) ≡ true
heads b s h = search rules
