-- The number of each reason for a refusal (document 01, "Refusal numbers", and the change requests). Assumes nothing: this is a definition.
use Rattle.std.specs.Prelude.{ℕ}
use Rattle.form.specs.declared.Reason.{Reason}
use Rattle.form.specs.declared.Reason.TheVariants.{TooShort, WrongMark, WrongVersion, WrongCounts, WrongLength, WrongRecord, TooLarge, WrongNumber, Unpromoted, AreaTooLarge, WrongBuffer, WrongBool, NotAttached, AlreadyAttached, NoMoreAttachments, NotVariadic, OtherAttachment, Astray, AtEnd, OtherType, WrongTypeCount, HiddenTooWide, OmittedCode, TooManyMembers, NoPlan}

abbrev pub number_of : Reason → ℕ
number_of TooShort = 1
number_of WrongMark = 2
number_of WrongVersion = 3
number_of WrongCounts = 4
number_of WrongLength = 5
number_of WrongRecord = 6
number_of TooLarge = 7
number_of WrongNumber = 8
number_of Unpromoted = 9
number_of AreaTooLarge = 10
number_of WrongBuffer = 11
number_of WrongBool = 12
number_of NotAttached = 13
number_of AlreadyAttached = 14
number_of NoMoreAttachments = 15
number_of NotVariadic = 16
number_of OtherAttachment = 17
number_of Astray = 18
number_of AtEnd = 19
number_of OtherType = 20
number_of WrongTypeCount = 24
number_of HiddenTooWide = 27
number_of OmittedCode = 28
number_of TooManyMembers = 29
number_of NoPlan = 30
