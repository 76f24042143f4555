-- The kinds of a plan's and of a report's records, and how long each one's body is. RULES, the plan, the report.
use Rattle.std.specs.Prelude.{ℕ, ◌+◌}

-- 01: the link delays
abbrev pub links_kind : ℕ
links_kind = 1

abbrev pub links_body : ℕ
links_body = 4

-- 02: a flow
abbrev pub flow_kind : ℕ
flow_kind = 2

abbrev pub flow_body : ℕ
flow_body = 33

abbrev pub flow_nodes : ℕ
flow_nodes = 8

-- 7F: the end of a plan, which has no body
abbrev pub end_kind : ℕ
end_kind = 127

-- 10: how many flows a report has
abbrev pub count_kind : ℕ
count_kind = 16

abbrev pub count_body : ℕ
count_body = 1

-- 11: a line of a report
abbrev pub line_kind : ℕ
line_kind = 17

abbrev pub line_body : ℕ
line_body = 7

-- 1F: the end of a report, which has no body
abbrev pub close_kind : ℕ
close_kind = 31

-- a whole record is its kind and its body
abbrev pub links_record : ℕ
links_record = 1 + links_body

abbrev pub flow_record : ℕ
flow_record = 1 + flow_body

abbrev pub count_record : ℕ
count_record = 1 + count_body

abbrev pub line_record : ℕ
line_record = 1 + line_body
