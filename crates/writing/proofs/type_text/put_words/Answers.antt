-- `put_words` meets its contract: the words of each code.
-- Assumes nothing.
use native.Mathlib.Omega.{arith}
use Rattle.declaring.specs.Writing.{words, words_of}
use Rattle.writing.specs.Texts.{words_text}
use Rattle.writing.proofs.Texts.{words-room, words-is}
use Rattle.writing.proofs.type_text.put_words.Goals as goal

pub put-requires : goal.put-requires
unfolding words_text words_of words
put-requires c = words-room c.args.code 0 c.args.text.now.at c.in-0.is c.requires.1

pub put-requires-in-1 : goal.put-requires-in-1
unfolding words_text words_of words
put-requires-in-1 c = words-room c.args.code 1 c.args.text.now.at c.in-1.is c.requires.1

pub put-requires-in-2 : goal.put-requires-in-2
unfolding words_text words_of words
put-requires-in-2 c = words-room c.args.code 2 c.args.text.now.at c.in-2.is c.requires.1

pub put-requires-in-3 : goal.put-requires-in-3
unfolding words_text words_of words
put-requires-in-3 c = words-room c.args.code 3 c.args.text.now.at c.in-3.is c.requires.1

pub put-requires-in-4 : goal.put-requires-in-4
unfolding words_text words_of words
put-requires-in-4 c = words-room c.args.code 4 c.args.text.now.at c.in-4.is c.requires.1

pub put-requires-in-5 : goal.put-requires-in-5
unfolding words_text words_of words
put-requires-in-5 c = words-room c.args.code 5 c.args.text.now.at c.in-5.is c.requires.1

pub put-requires-in-6 : goal.put-requires-in-6
unfolding words_text words_of words
put-requires-in-6 c = words-room c.args.code 6 c.args.text.now.at c.in-6.is c.requires.1

pub put-requires-in-7 : goal.put-requires-in-7
unfolding words_text words_of words
put-requires-in-7 c = words-room c.args.code 7 c.args.text.now.at c.in-7.is c.requires.1

pub put-requires-in-8 : goal.put-requires-in-8
unfolding words_text words_of words
put-requires-in-8 c = words-room c.args.code 8 c.args.text.now.at c.in-8.is c.requires.1

pub put-requires-in-9 : goal.put-requires-in-9
unfolding words_text words_of words
put-requires-in-9 c = words-room c.args.code 9 c.args.text.now.at c.in-9.is c.requires.1

pub put-requires-in-10 : goal.put-requires-in-10
unfolding words_text words_of words
put-requires-in-10 c = words-room c.args.code 10 c.args.text.now.at c.in-10.is c.requires.1

pub put-requires-in-11 : goal.put-requires-in-11
unfolding words_text words_of words
put-requires-in-11 c = words-room c.args.code 11 c.args.text.now.at c.in-11.is c.requires.1

pub put-requires-in-12 : goal.put-requires-in-12
unfolding words_text words_of words
put-requires-in-12 c = words-room c.args.code 12 c.args.text.now.at c.in-12.is c.requires.1

pub put-requires-in-13 : goal.put-requires-in-13
unfolding words_text words_of words
put-requires-in-13 c = words-room c.args.code 13 c.args.text.now.at c.in-13.is c.requires.1

pub put-requires-in-14 : goal.put-requires-in-14
unfolding words_text words_of words
put-requires-in-14 c = words-room c.args.code 14 c.args.text.now.at c.in-14.is c.requires.1

pub put-requires-in-15 : goal.put-requires-in-15
unfolding words_text words_of words
put-requires-in-15 c = words-room c.args.code 15 c.args.text.now.at c.in-15.is c.requires.1

pub put-requires-in-16 : goal.put-requires-in-16
unfolding words_text words_of words
put-requires-in-16 c = words-room c.args.code 16 c.args.text.now.at c.in-16.is c.requires.1

pub returns-in-0 : goal.returns-in-0
unfolding words_text words_of words
returns-in-0 c = words-is c.args.code 0 c.in-0.is c.put.ensures

pub returns-in-1 : goal.returns-in-1
unfolding words_text words_of words
returns-in-1 c = words-is c.args.code 1 c.in-1.is c.put-in-1.ensures

pub returns-in-2 : goal.returns-in-2
unfolding words_text words_of words
returns-in-2 c = words-is c.args.code 2 c.in-2.is c.put-in-2.ensures

pub returns-in-3 : goal.returns-in-3
unfolding words_text words_of words
returns-in-3 c = words-is c.args.code 3 c.in-3.is c.put-in-3.ensures

pub returns-in-4 : goal.returns-in-4
unfolding words_text words_of words
returns-in-4 c = words-is c.args.code 4 c.in-4.is c.put-in-4.ensures

pub returns-in-5 : goal.returns-in-5
unfolding words_text words_of words
returns-in-5 c = words-is c.args.code 5 c.in-5.is c.put-in-5.ensures

pub returns-in-6 : goal.returns-in-6
unfolding words_text words_of words
returns-in-6 c = words-is c.args.code 6 c.in-6.is c.put-in-6.ensures

pub returns-in-7 : goal.returns-in-7
unfolding words_text words_of words
returns-in-7 c = words-is c.args.code 7 c.in-7.is c.put-in-7.ensures

pub returns-in-8 : goal.returns-in-8
unfolding words_text words_of words
returns-in-8 c = words-is c.args.code 8 c.in-8.is c.put-in-8.ensures

pub returns-in-9 : goal.returns-in-9
unfolding words_text words_of words
returns-in-9 c = words-is c.args.code 9 c.in-9.is c.put-in-9.ensures

pub returns-in-10 : goal.returns-in-10
unfolding words_text words_of words
returns-in-10 c = words-is c.args.code 10 c.in-10.is c.put-in-10.ensures

pub returns-in-11 : goal.returns-in-11
unfolding words_text words_of words
returns-in-11 c = words-is c.args.code 11 c.in-11.is c.put-in-11.ensures

pub returns-in-12 : goal.returns-in-12
unfolding words_text words_of words
returns-in-12 c = words-is c.args.code 12 c.in-12.is c.put-in-12.ensures

pub returns-in-13 : goal.returns-in-13
unfolding words_text words_of words
returns-in-13 c = words-is c.args.code 13 c.in-13.is c.put-in-13.ensures

pub returns-in-14 : goal.returns-in-14
unfolding words_text words_of words
returns-in-14 c = words-is c.args.code 14 c.in-14.is c.put-in-14.ensures

pub returns-in-15 : goal.returns-in-15
unfolding words_text words_of words
returns-in-15 c = words-is c.args.code 15 c.in-15.is c.put-in-15.ensures

pub returns-in-16 : goal.returns-in-16
unfolding words_text words_of words
returns-in-16 c = words-is c.args.code 16 c.in-16.is c.put-in-16.ensures

pub returns-in_default : goal.returns-in_default
returns-in_default c = absurd (omega arith)
