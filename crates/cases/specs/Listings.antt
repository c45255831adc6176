-- What the lister prints of each of the cases, line by line: document 01, "The lister"; document 02, request 2026-07. Assumes nothing: these are definitions.
use Rattle.std.specs.Prelude.{List, [], ◌∷◌, ◌++◌, ℕ}
use Prim.Native.String.{String}
use Rattle.listing.specs.Characters.{bytes}
use Rattle.listing.specs.Words.{newline}

-- each line ends with a newline
abbrev pub printed : List String → List ℕ
printed [] = []
printed (line ∷ lines) = bytes line ++ newline ++ printed lines

-- in the order of the cases
unfoldable pub listings : List (List ℕ)
listings =
    -- the lister's case: the text of document 01, with what document 02 appends (request 2026-07)
    printed (
    "KCB 1 args 5 named 3 gp 4 vec 2 stack 16" ∷
    "0 type 0 size 4 align 4 rdi at 0 named" ∷
    "1 type 3 size 16 align 8 xmm0 rsi at 4 named" ∷
    "2 type 4 size 16 align 16 stack 0 at 20 named" ∷
    "3 type 1 size 8 align 8 xmm1 at 36 unnamed" ∷
    "4 type 5 size 16 align 16 rdx rcx at 44 unnamed" ∷
    "return type 1 xmm0" ∷
    "walk gp 16 fp 64 over 16" ∷
    []
    ) ∷
    -- P1
    printed (
    "KCB 1 args 5 named 2 gp 2 vec 2 stack 16" ∷
    "0 type 0 size 4 align 4 rdi at 0 named" ∷
    "1 type 1 size 8 align 8 xmm0 at 4 named" ∷
    "2 type 0 size 4 align 4 rsi at 12 unnamed" ∷
    "3 type 2 size 16 align 16 stack 0 at 16 unnamed" ∷
    "4 type 1 size 8 align 8 xmm1 at 32 unnamed" ∷
    "return void" ∷
    "walk gp 8 fp 64 over 0" ∷
    []
    ) ∷
    -- P2
    printed (
    "KCB 1 args 1 named 1 gp 2 vec 0 stack 0" ∷
    "0 type 2 size 16 align 16 rdi rsi at 0 named" ∷
    "return void" ∷
    "walk none" ∷
    []
    ) ∷
    -- P3
    printed (
    "KCB 1 args 1 named 1 gp 0 vec 0 stack 16" ∷
    "0 type 2 size 16 align 16 stack 0 at 0 named" ∷
    "return void" ∷
    "walk none" ∷
    []
    ) ∷
    -- P4
    printed (
    "KCB 1 args 1 named 1 gp 0 vec 0 stack 16" ∷
    "0 type 2 size 16 align 16 stack 0 at 0 named" ∷
    "return void" ∷
    "walk none" ∷
    []
    ) ∷
    -- P5
    printed (
    "KCB 1 args 1 named 1 gp 1 vec 1 stack 0" ∷
    "0 type 2 size 16 align 16 rdi xmm0 at 0 named" ∷
    "return void" ∷
    "walk none" ∷
    []
    ) ∷
    -- P6
    printed (
    "KCB 1 args 1 named 1 gp 0 vec 2 stack 0" ∷
    "0 type 3 size 16 align 16 xmm0 xmm1 at 0 named" ∷
    "return void" ∷
    "walk none" ∷
    []
    ) ∷
    -- P7
    printed (
    "KCB 1 args 7 named 7 gp 6 vec 0 stack 16" ∷
    "0 type 0 size 8 align 8 rdi at 0 named" ∷
    "1 type 0 size 8 align 8 rsi at 8 named" ∷
    "2 type 0 size 8 align 8 rdx at 16 named" ∷
    "3 type 0 size 8 align 8 rcx at 24 named" ∷
    "4 type 0 size 8 align 8 r8 at 32 named" ∷
    "5 type 1 size 16 align 16 stack 0 at 40 named" ∷
    "6 type 0 size 8 align 8 r9 at 56 named" ∷
    "return void" ∷
    "walk none" ∷
    []
    ) ∷
    -- P8
    printed (
    "KCB 1 args 8 named 8 gp 6 vec 0 stack 32" ∷
    "0 type 0 size 8 align 8 rdi at 0 named" ∷
    "1 type 0 size 8 align 8 rsi at 8 named" ∷
    "2 type 0 size 8 align 8 rdx at 16 named" ∷
    "3 type 0 size 8 align 8 rcx at 24 named" ∷
    "4 type 0 size 8 align 8 r8 at 32 named" ∷
    "5 type 0 size 8 align 8 r9 at 40 named" ∷
    "6 type 0 size 8 align 8 stack 0 at 48 named" ∷
    "7 type 1 size 16 align 16 stack 16 at 56 named" ∷
    "return void" ∷
    "walk none" ∷
    []
    ) ∷
    -- P9
    printed (
    "KCB 1 args 1 named 1 gp 1 vec 1 stack 0" ∷
    "0 type 3 size 12 align 4 xmm0 rdi at 0 named" ∷
    "return void" ∷
    "walk none" ∷
    []
    ) ∷
    -- P10
    printed (
    "KCB 1 args 9 named 9 gp 0 vec 8 stack 16" ∷
    "0 type 0 size 8 align 8 xmm0 at 0 named" ∷
    "1 type 0 size 8 align 8 xmm1 at 8 named" ∷
    "2 type 0 size 8 align 8 xmm2 at 16 named" ∷
    "3 type 0 size 8 align 8 xmm3 at 24 named" ∷
    "4 type 0 size 8 align 8 xmm4 at 32 named" ∷
    "5 type 0 size 8 align 8 xmm5 at 40 named" ∷
    "6 type 0 size 8 align 8 xmm6 at 48 named" ∷
    "7 type 1 size 16 align 8 stack 0 at 56 named" ∷
    "8 type 0 size 8 align 8 xmm7 at 72 named" ∷
    "return void" ∷
    "walk none" ∷
    []
    ) ∷
    -- P11
    printed (
    "KCB 1 args 1 named 1 gp 2 vec 0 stack 0" ∷
    "0 type 1 size 4 align 4 rsi at 0 named" ∷
    "return type 3 memory" ∷
    "walk none" ∷
    []
    ) ∷
    -- 000, figure 3.32
    printed (
    "KCB 1 args 7 named 3 gp 2 vec 3 stack 64" ∷
    "0 type 0 size 4 align 4 rdi at 0 named" ∷
    "1 type 1 size 8 align 8 xmm0 at 4 named" ∷
    "2 type 2 size 32 align 32 xmm1y at 12 named" ∷
    "3 type 0 size 4 align 4 rsi at 44 unnamed" ∷
    "4 type 3 size 16 align 16 stack 0 at 48 unnamed" ∷
    "5 type 2 size 32 align 32 stack 32 at 64 unnamed" ∷
    "6 type 1 size 8 align 8 xmm2 at 96 unnamed" ∷
    "return void" ∷
    "walk gp 8 fp 80 over 0" ∷
    []
    ) ∷
    -- 000, figure 3.6
    printed (
    "KCB 1 args 12 named 12 gp 6 vec 4 stack 32" ∷
    "0 type 0 size 4 align 4 rdi at 0 named" ∷
    "1 type 0 size 4 align 4 rsi at 4 named" ∷
    "2 type 4 size 16 align 8 rdx xmm0 at 8 named" ∷
    "3 type 0 size 4 align 4 rcx at 24 named" ∷
    "4 type 0 size 4 align 4 r8 at 28 named" ∷
    "5 type 2 size 16 align 16 stack 0 at 32 named" ∷
    "6 type 1 size 8 align 8 xmm1 at 48 named" ∷
    "7 type 3 size 32 align 32 xmm2y at 56 named" ∷
    "8 type 1 size 8 align 8 xmm3 at 88 named" ∷
    "9 type 0 size 4 align 4 r9 at 96 named" ∷
    "10 type 0 size 4 align 4 stack 16 at 100 named" ∷
    "11 type 0 size 4 align 4 stack 24 at 104 named" ∷
    "return void" ∷
    "walk none" ∷
    []
    ) ∷
    -- a struct of one, and a union with four doubles
    printed (
    "KCB 1 args 2 named 2 gp 0 vec 1 stack 32" ∷
    "0 type 2 size 32 align 32 xmm0y at 0 named" ∷
    "1 type 4 size 32 align 32 stack 0 at 32 named" ∷
    "return type 2 xmm0y" ∷
    "walk none" ∷
    []
    ) ∷
    -- unnamed ones
    printed (
    "KCB 1 args 3 named 0 gp 0 vec 0 stack 96" ∷
    "0 type 1 size 16 align 16 stack 0 at 0 unnamed" ∷
    "1 type 2 size 32 align 32 stack 32 at 16 unnamed" ∷
    "2 type 0 size 32 align 32 stack 64 at 48 unnamed" ∷
    "return void" ∷
    "walk gp 0 fp 48 over 0" ∷
    []
    ) ∷
    -- one in a register alone
    printed (
    "KCB 1 args 2 named 2 gp 0 vec 1 stack 16" ∷
    "0 type 0 size 32 align 32 xmm0y at 0 named" ∷
    "1 type 1 size 16 align 16 stack 0 at 32 named" ∷
    "return void" ∷
    "walk none" ∷
    []
    ) ∷
    -- a ninth
    printed (
    "KCB 1 args 16 named 16 gp 6 vec 8 stack 64" ∷
    "0 type 0 size 32 align 32 xmm0y at 0 named" ∷
    "1 type 0 size 32 align 32 xmm1y at 32 named" ∷
    "2 type 0 size 32 align 32 xmm2y at 64 named" ∷
    "3 type 0 size 32 align 32 xmm3y at 96 named" ∷
    "4 type 0 size 32 align 32 xmm4y at 128 named" ∷
    "5 type 0 size 32 align 32 xmm5y at 160 named" ∷
    "6 type 0 size 32 align 32 xmm6y at 192 named" ∷
    "7 type 0 size 32 align 32 xmm7y at 224 named" ∷
    "8 type 1 size 8 align 8 rdi at 256 named" ∷
    "9 type 1 size 8 align 8 rsi at 264 named" ∷
    "10 type 1 size 8 align 8 rdx at 272 named" ∷
    "11 type 1 size 8 align 8 rcx at 280 named" ∷
    "12 type 1 size 8 align 8 r8 at 288 named" ∷
    "13 type 1 size 8 align 8 r9 at 296 named" ∷
    "14 type 0 size 32 align 32 stack 0 at 304 named" ∷
    "15 type 1 size 8 align 8 stack 32 at 336 named" ∷
    "return void" ∷
    "walk none" ∷
    []
    ) ∷
    []
