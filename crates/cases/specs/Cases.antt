-- "The lister's case, and these, as first arguments of a function returning void unless said": each description, and its layout and placement records;
-- and behind them those of request 2026-06. Assumes nothing: these are definitions.
use Rattle.std.specs.Prelude.{Bool, true, false, List, [], ◌∷◌, ℕ}
use Rattle.places.specs.declared.Register.{Register}
use Rattle.places.specs.declared.Register.TheVariants.{Wide}
use Rattle.places.specs.declared.Used.{Used}
use Rattle.places.specs.declared.Place.{Place}
use Rattle.places.specs.declared.Place.TheVariants.{One, Two, Stack}
use Rattle.places.specs.declared.ReturnPlace.{ReturnPlace}
use Rattle.places.specs.declared.ReturnPlace.TheVariants.{Void, Memory as InMemory, One as InOne}
use Rattle.places.specs.Cases.{rdi, rsi, rdx, rcx, r8, r9, xmm0, xmm1, xmm2, xmm3, xmm4, xmm5, xmm6, xmm7}
use Rattle.layout.specs.declared.Layout.{Layout}
use Rattle.layout.specs.declared.placements.Placement.{Placement}
use Rattle.cases.specs.Written.{array, struct, union, written, plain, char, int, long, int128, float, double, long_double, m128, m256, complex_double}

-- what is used: general registers, vector registers, stack bytes; and no argument on the stack is aligned to 32
abbrev pub used : ℕ → ℕ → ℕ → Used
used general vector stack = record { general = record { 0 = general }; vector = record { 0 = vector }; stack = record { 0 = stack }; strict = false }

-- one is
abbrev pub strictly : ℕ → ℕ → ℕ → Used
strictly general vector stack = record { general = record { 0 = general }; vector = record { 0 = vector }; stack = record { 0 = stack }; strict = true }

-- a layout: what is used after all arguments, area and its alignment, length of the values, return place, size of what is returned, hidden address, and where a walk starts
abbrev pub layout : Used → ℕ → ℕ → ℕ → ReturnPlace → ℕ → Bool → Used → Layout
layout all area align values returns size hidden named =
    record {
      used = all;
      area = record { 0 = area };
      align = record { 0 = align };
      values = record { 0 = values };
      returns = returns;
      returned = record { 0 = size };
      hidden = hidden;
      named = named;
    }

-- a plain function that returns void: a walk would start behind all arguments
abbrev pub plain_layout : Used → ℕ → ℕ → Layout
plain_layout all area values = layout all area 16 values Void 0 false all

-- type, size, alignment, place; and where its value begins, and whether it is named (request 2026-07)
abbrev pub placed : ℕ → ℕ → ℕ → Place → ℕ → Bool → Placement
placed type size align place at named =
    record { ty = type; size = record { 0 = size }; align = record { 0 = align }; place = place; at = record { 0 = at }; named = named }

-- a vector register that holds 32 bytes, as 000 names it
abbrev pub ymm : ℕ → Register
ymm n = Wide (record { 0 = n })

abbrev pub stack : ℕ → Place
stack o = Stack (record { 0 = o })

pub record Case : Type 0 where
  pub bytes : List ℕ
  pub laid : Layout
  pub records : List Placement

unfoldable pub cases : List Case
cases =
    -- the lister's case: int, struct of double and long, long double, unnamed double and __int128; returns double
    record {
      bytes = written 1 3 1 (int ∷ double ∷ long ∷ struct 0 2 ∷ long_double ∷ int128 ∷ []) (1 ∷ 2 ∷ []) (0 ∷ 3 ∷ 4 ∷ 1 ∷ 5 ∷ []);
      laid = layout (used 4 2 16) 16 16 60 (InOne xmm0) 8 false (used 2 1 16);
      records = placed 0 4 4 (One rdi) 0 true ∷ placed 3 16 8 (Two xmm0 rsi) 4 true ∷ placed 4 16 16 (stack 0) 20 true ∷ placed 1 8 8 (One xmm1) 36 false ∷ placed 5 16 16 (Two rdx rcx) 44 false ∷ [];
    }
    ∷
    -- P1: int, double, then unnamed int, long double, double
    record {
      bytes = written 1 2 255 (int ∷ double ∷ long_double ∷ []) [] (0 ∷ 1 ∷ 0 ∷ 2 ∷ 1 ∷ []);
      laid = layout (used 2 2 16) 16 16 40 Void 0 false (used 1 1 0);
      records = placed 0 4 4 (One rdi) 0 true ∷ placed 1 8 8 (One xmm0) 4 true ∷ placed 0 4 4 (One rsi) 12 false ∷ placed 2 16 16 (stack 0) 16 false ∷ placed 1 8 8 (One xmm1) 32 false ∷ [];
    }
    ∷
    -- P2: union of __int128 and long double
    record {
      bytes = plain (int128 ∷ long_double ∷ union 0 2 ∷ []) (0 ∷ 1 ∷ []) (2 ∷ []);
      laid = plain_layout (used 2 0 0) 0 16;
      records = placed 2 16 16 (Two rdi rsi) 0 true ∷ [];
    }
    ∷
    -- P3: union of int and long double
    record {
      bytes = plain (int ∷ long_double ∷ union 0 2 ∷ []) (0 ∷ 1 ∷ []) (2 ∷ []);
      laid = plain_layout (used 0 0 16) 16 16;
      records = placed 2 16 16 (stack 0) 0 true ∷ [];
    }
    ∷
    -- P4: union of float and long double
    record {
      bytes = plain (float ∷ long_double ∷ union 0 2 ∷ []) (0 ∷ 1 ∷ []) (2 ∷ []);
      laid = plain_layout (used 0 0 16) 16 16;
      records = placed 2 16 16 (stack 0) 0 true ∷ [];
    }
    ∷
    -- P5: union of __m128 and long
    record {
      bytes = plain (m128 ∷ long ∷ union 0 2 ∷ []) (0 ∷ 1 ∷ []) (2 ∷ []);
      laid = plain_layout (used 1 1 0) 0 16;
      records = placed 2 16 16 (Two rdi xmm0) 0 true ∷ [];
    }
    ∷
    -- P6: union of __m128 and a struct of two doubles
    record {
      bytes = plain (m128 ∷ double ∷ struct 0 2 ∷ union 2 2 ∷ []) (1 ∷ 1 ∷ 0 ∷ 2 ∷ []) (3 ∷ []);
      laid = plain_layout (used 0 2 0) 0 16;
      records = placed 3 16 16 (Two xmm0 xmm1) 0 true ∷ [];
    }
    ∷
    -- P7: five longs, __int128, long
    record {
      bytes = plain (long ∷ int128 ∷ []) [] (0 ∷ 0 ∷ 0 ∷ 0 ∷ 0 ∷ 1 ∷ 0 ∷ []);
      laid = plain_layout (used 6 0 16) 16 64;
      records = placed 0 8 8 (One rdi) 0 true ∷ placed 0 8 8 (One rsi) 8 true ∷ placed 0 8 8 (One rdx) 16 true ∷ placed 0 8 8 (One rcx) 24 true ∷ placed 0 8 8 (One r8) 32 true ∷ placed 1 16 16 (stack 0) 40 true ∷ placed 0 8 8 (One r9) 56 true ∷ [];
    }
    ∷
    -- P8: seven longs, __int128
    record {
      bytes = plain (long ∷ int128 ∷ []) [] (0 ∷ 0 ∷ 0 ∷ 0 ∷ 0 ∷ 0 ∷ 0 ∷ 1 ∷ []);
      laid = plain_layout (used 6 0 32) 32 72;
      records = placed 0 8 8 (One rdi) 0 true ∷ placed 0 8 8 (One rsi) 8 true ∷ placed 0 8 8 (One rdx) 16 true ∷ placed 0 8 8 (One rcx) 24 true ∷ placed 0 8 8 (One r8) 32 true ∷ placed 0 8 8 (One r9) 40 true ∷ placed 0 8 8 (stack 0) 48 true ∷ placed 1 16 16 (stack 16) 56 true ∷ [];
    }
    ∷
    -- P9: struct of a float and a struct of float and int
    record {
      bytes = plain (float ∷ int ∷ struct 0 2 ∷ struct 2 2 ∷ []) (0 ∷ 1 ∷ 0 ∷ 2 ∷ []) (3 ∷ []);
      laid = plain_layout (used 1 1 0) 0 12;
      records = placed 3 12 4 (Two xmm0 rdi) 0 true ∷ [];
    }
    ∷
    -- P10: seven doubles, complex double, double
    record {
      bytes = plain (double ∷ complex_double ∷ []) [] (0 ∷ 0 ∷ 0 ∷ 0 ∷ 0 ∷ 0 ∷ 0 ∷ 1 ∷ 0 ∷ []);
      laid = plain_layout (used 0 8 16) 16 80;
      records = placed 0 8 8 (One xmm0) 0 true ∷ placed 0 8 8 (One xmm1) 8 true ∷ placed 0 8 8 (One xmm2) 16 true ∷ placed 0 8 8 (One xmm3) 24 true ∷ placed 0 8 8 (One xmm4) 32 true ∷ placed 0 8 8 (One xmm5) 40 true ∷ placed 0 8 8 (One xmm6) 48 true ∷ placed 1 16 8 (stack 0) 56 true ∷ placed 0 8 8 (One xmm7) 72 true ∷ [];
    }
    ∷
    -- P11: returns a struct of 17 chars, takes an int
    record {
      bytes = written 0 1 3 (char ∷ int ∷ array 0 17 ∷ struct 0 1 ∷ []) (2 ∷ []) (1 ∷ []);
      laid = layout (used 2 0 0) 0 16 4 InMemory 17 true (used 2 0 0);
      records = placed 1 4 4 (One rsi) 0 true ∷ [];
    }
    ∷
    -- 000, figures 3.31 and 3.32, without the two of 64 bytes: int, double, __m256, then unnamed int, long double, __m256, double
    record {
      bytes = written 1 3 255 (int ∷ double ∷ m256 ∷ long_double ∷ []) [] (0 ∷ 1 ∷ 2 ∷ 0 ∷ 3 ∷ 2 ∷ 1 ∷ []);
      laid = layout (strictly 2 3 64) 64 32 104 Void 0 false (used 1 2 0);
      records = placed 0 4 4 (One rdi) 0 true ∷ placed 1 8 8 (One xmm0) 4 true ∷ placed 2 32 32 (One (ymm 1)) 12 true ∷ placed 0 4 4 (One rsi) 44 false ∷ placed 3 16 16 (stack 0) 48 false ∷ placed 2 32 32 (stack 32) 64 false ∷ placed 1 8 8 (One xmm2) 96 false ∷ [];
    }
    ∷
    -- 000, figures 3.5 and 3.6, without the one of 64 bytes: int, int, struct of two ints and a double, int, int, long double, double, __m256,
    -- double, int, int, int
    record {
      bytes = plain (int ∷ double ∷ long_double ∷ m256 ∷ struct 0 3 ∷ []) (0 ∷ 0 ∷ 1 ∷ []) (0 ∷ 0 ∷ 4 ∷ 0 ∷ 0 ∷ 2 ∷ 1 ∷ 3 ∷ 1 ∷ 0 ∷ 0 ∷ 0 ∷ []);
      laid = plain_layout (used 6 4 32) 32 108;
      records = placed 0 4 4 (One rdi) 0 true ∷ placed 0 4 4 (One rsi) 4 true ∷ placed 4 16 8 (Two rdx xmm0) 8 true ∷ placed 0 4 4 (One rcx) 24 true ∷ placed 0 4 4 (One r8) 28 true ∷ placed 2 16 16 (stack 0) 32 true ∷ placed 1 8 8 (One xmm1) 48 true ∷ placed 3 32 32 (One (ymm 2)) 56 true ∷ placed 1 8 8 (One xmm3) 88 true ∷ placed 0 4 4 (One r9) 96 true ∷ placed 0 4 4 (stack 16) 100 true ∷ placed 0 4 4 (stack 24) 104 true ∷ [];
    }
    ∷
    -- "A struct of one __m256 goes in a register; a union of it and four doubles doesn't"; and one comes back as it went
    record {
      bytes = written 0 2 2 (double ∷ m256 ∷ struct 0 1 ∷ array 0 4 ∷ union 0 2 ∷ []) (1 ∷ 3 ∷ []) (2 ∷ 4 ∷ []);
      laid = layout (strictly 0 1 32) 32 32 64 (InOne (ymm 0)) 32 false (strictly 0 1 32);
      records = placed 2 32 32 (One (ymm 0)) 0 true ∷ placed 4 32 32 (stack 0) 32 true ∷ [];
    }
    ∷
    -- "an unnamed one, structures included, is always on the stack", where places honour 32: unnamed long double and struct of one __m256
    record {
      bytes = written 1 0 255 (m256 ∷ long_double ∷ struct 0 1 ∷ []) (0 ∷ []) (1 ∷ 2 ∷ 0 ∷ []);
      laid = layout (strictly 0 0 96) 96 32 80 Void 0 false (used 0 0 0);
      records = placed 1 16 16 (stack 0) 0 false ∷ placed 2 32 32 (stack 32) 16 false ∷ placed 0 32 32 (stack 64) 48 false ∷ [];
    }
    ∷
    -- "an area with a 32-byte aligned argument on it is rounded up to 32": not one whose only such argument is in a register
    record {
      bytes = plain (m256 ∷ long_double ∷ []) [] (0 ∷ 1 ∷ []);
      laid = plain_layout (used 0 1 16) 16 48;
      records = placed 0 32 32 (One (ymm 0)) 0 true ∷ placed 1 16 16 (stack 0) 32 true ∷ [];
    }
    ∷
    -- and one on which it comes last, behind eight that found a register
    record {
      bytes = plain (m256 ∷ long ∷ []) [] (0 ∷ 0 ∷ 0 ∷ 0 ∷ 0 ∷ 0 ∷ 0 ∷ 0 ∷ 1 ∷ 1 ∷ 1 ∷ 1 ∷ 1 ∷ 1 ∷ 0 ∷ 1 ∷ []);
      laid = layout (strictly 6 8 40) 64 32 344 Void 0 false (strictly 6 8 40);
      records = placed 0 32 32 (One (ymm 0)) 0 true ∷ placed 0 32 32 (One (ymm 1)) 32 true ∷ placed 0 32 32 (One (ymm 2)) 64 true ∷ placed 0 32 32 (One (ymm 3)) 96 true ∷ placed 0 32 32 (One (ymm 4)) 128 true ∷ placed 0 32 32 (One (ymm 5)) 160 true ∷ placed 0 32 32 (One (ymm 6)) 192 true ∷ placed 0 32 32 (One (ymm 7)) 224 true ∷ placed 1 8 8 (One rdi) 256 true ∷ placed 1 8 8 (One rsi) 264 true ∷ placed 1 8 8 (One rdx) 272 true ∷ placed 1 8 8 (One rcx) 280 true ∷ placed 1 8 8 (One r8) 288 true ∷ placed 1 8 8 (One r9) 296 true ∷ placed 0 32 32 (stack 0) 304 true ∷ placed 1 8 8 (stack 32) 336 true ∷ [];
    }
    ∷
    []
