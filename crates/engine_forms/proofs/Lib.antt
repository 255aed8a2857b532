mod PatternLemmas
