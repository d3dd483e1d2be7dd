-- Tests and what they say. Assumes nothing.
use mathlib.Core.Path.{◌≡◌, refl, sym, subst}
use mathlib.Core.Bool.{Bool, true, false, ◌&&◌, ◌||◌}
use lib.Dec.{T}

pub is_true : (b : Bool) → T b → b ≡ true
is_true true t = refl
is_true false t = absurd t

pub is_T : (b : Bool) → b ≡ true → T b
is_T b e = subst T (sym e) tt

pub and_left : (p q : Bool) → T (p && q) → T p
and_left true q t = tt
and_left false q t = t

pub and_right : (p q : Bool) → T (p && q) → T q
and_right true q t = t
and_right false q t = absurd t

pub both : (p q : Bool) → T p → T q → T (p && q)
both true q h k = k
both false q h k = h

pub or_left : (p q : Bool) → T p → T (p || q)
or_left true q h = tt
or_left false q h = absurd h

pub or_right : (p q : Bool) → T q → T (p || q)
or_right true q h = tt
or_right false q h = h
