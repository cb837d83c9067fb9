mod PieceLemmas
