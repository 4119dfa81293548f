use Rattle.std.specs.Prelude.{ℕ}
use Rattle.x86_flags.specs.declared.priority_class.PriorityClass.{PriorityClass}
use Rattle.x86_flags.specs.declared.priority_class.PriorityClass.TheVariants.{PriorityClass1, PriorityClass2, PriorityClass3, PriorityClass4, PriorityClass5, PriorityClass6, PriorityClass7, PriorityClass8, PriorityClass9, PriorityClass10, PriorityClass11, PriorityClass12, PriorityClass13, PriorityClass14, PriorityClass15}

-- the number of a class
abbrev pub class_number : PriorityClass → ℕ
class_number PriorityClass1 = 1
class_number PriorityClass2 = 2
class_number PriorityClass3 = 3
class_number PriorityClass4 = 4
class_number PriorityClass5 = 5
class_number PriorityClass6 = 6
class_number PriorityClass7 = 7
class_number PriorityClass8 = 8
class_number PriorityClass9 = 9
class_number PriorityClass10 = 10
class_number PriorityClass11 = 11
class_number PriorityClass12 = 12
class_number PriorityClass13 = 13
class_number PriorityClass14 = 14
class_number PriorityClass15 = 15
