-- What a test picks of two values, or of two pairs of values: what holds of both is so of the one picked, and what is so of
-- the one picked holds of the one that the test names.
-- Assumes nothing.
use mathlib.Core.Bool.{Bool, true, false, cond}
use mathlib.Core.Path.{◌≡◌, refl, subst}

-- two pairs by the same test
module _ {A B : Type 0} (P : A → B → Type 0) where
  pub both_by : (b : Bool) (x y : A) (u v : B) → (b ≡ true → P x u) → (b ≡ false → P y v) → P (cond b x y) (cond b u v)
  both_by true x y u v p q = p refl
  both_by false x y u v p q = q refl

  pub both_behind : (b : Bool) (x y : A) (u v : B) → b ≡ true → P (cond b x y) (cond b u v) → P x u
  both_behind b x y u v t p = subst (λ (c : Bool). P (cond c x y) (cond c u v)) t p

  pub both-behind-not : (b : Bool) (x y : A) (u v : B) → b ≡ false → P (cond b x y) (cond b u v) → P y v
  both-behind-not b x y u v t p = subst (λ (c : Bool). P (cond c x y) (cond c u v)) t p

-- two values
module _ {A : Type 0} (P : A → Type 0) where
  pub by-test : (b : Bool) (x y : A) → (b ≡ true → P x) → P y → P (cond b x y)
  by-test b x y p q = both_by (λ (z : A) (_ : A). P z) b x y x y p (λ _. q)

  pub behind : (b : Bool) (x y : A) → b ≡ true → P (cond b x y) → P x
  behind b x y = both_behind (λ (z : A) (_ : A). P z) b x y x y
